-- The lines of fields, one field after another.
use Rattle.std.proofs.Common.{◌≡◌, ◌<◌, ◌≤◌, ℕ, ◌+◌, List, [], ◌∷◌, ◌++◌, length, get_or, take, min, ap, sym, ◌∙◌}
use Rattle.std.proofs.Common.{arith, Result, Ok, Err, OnOk}
use Rattle.std.proofs.lemmas.List.{append_assoc, flat_map_more, take_more, take_all}
use Rattle.std.proofs.lemmas.Slice.Zip.{length-zip, get_or-zip}
use Rattle.std.specs.List.{flat_map, zip}
use Rattle.std.specs.Prelude.{codes}
use Rattle.trace_wire.specs.Schemas.{Field}
use Rattle.trace_stats.specs.declared.field.FieldStats.{FieldStats}
use Rattle.trace_stats.specs.declared.float.FloatSummary.{FloatSummary}
use Rattle.gotymbe_plan.specs.Statistics.{field_lines, pair_lines, named_number, bounds_text, floats_text}

-- a text, and then the lines of so many fields
abbrev pub with_lines : List ℕ → ℕ → List Field → List FieldStats → List ℕ
with_lines old i fields stats = old ++ flat_map pair_lines (take i (zip fields stats))

-- the field of an index, and what is kept of it
pub record FieldAt (fields : List Field) (stats : List FieldStats) (i : ℕ) (f : Field) (s : FieldStats) : Type 0 where
  pub inside : i < length fields
  pub kept : i < length stats
  pub field : f ≡ get_or fields i f
  pub stats_is : s ≡ get_or stats i s

-- with the lines of one more
pub one_more :
    {now next : List ℕ} (old : List ℕ) (fields : List Field) (stats : List FieldStats) (i : ℕ) (f : Field)
    (s : FieldStats) → FieldAt fields stats i f s → now ≡ with_lines old i fields stats →
    next ≡ now ++ field_lines f.name s → next ≡ with_lines old (i + 1) fields stats
one_more {now} {next} old fields stats i f s at before more =
    let pairs = zip fields stats in
    let lt : i < length pairs = omega (arith, at.inside, at.kept, length-zip fields stats) in
    let here : get_or pairs i (f, s) ≡ (f, s) =
    get_or-zip fields stats i (f, s) at.inside at.kept ∙ (λ k. (sym at.field k, sym at.stats_is k)) in
    more ∙ ap (λ (l : List ℕ). l ++ pair_lines (f, s)) before
    ∙ flat_map_more pair_lines old (take i pairs) (f, s)
    ∙ ap (λ (p : Field × FieldStats). old ++ flat_map pair_lines (take i pairs ++ p ∷ [])) (sym here)
    ∙ ap (λ (l : List (Field × FieldStats)). old ++ flat_map pair_lines l) (sym (take_more pairs i (f, s) lt))

-- with those of all
pub all_lines :
    (old now : List ℕ) (fields : List Field) (stats : List FieldStats) (i n : ℕ) →
    n ≡ min (length fields) (length stats) → n ≤ i → now ≡ with_lines old i fields stats →
    now ≡ old ++ flat_map pair_lines (zip fields stats)
all_lines old now fields stats i n count le is =
    let pairs = zip fields stats in
    let many : length pairs ≤ i = omega (arith, length-zip fields stats, count, le) in
    is ∙ ap (λ (l : List (Field × FieldStats)). old ++ flat_map pair_lines l) (take_all i pairs many)

-- how many floats are numbers, then their bounds, then how many are no numbers
pub floats_appended :
    {E : Type 0} (r : Result (Unit {0}) E) (s : FloatSummary) (old new : List ℕ) {one two : List ℕ} {m n : ℕ} →
    m ≡ s.count → n ≡ s.not_numbers → one ≡ old ++ named_number (codes " count=") m → two ≡ one ++ bounds_text s →
    OnOk r (new ≡ two ++ named_number (codes " not_numbers=") n) → OnOk r (new ≡ old ++ floats_text s)
unfolding floats_text
floats_appended (Ok u) s old new {one} {two} {m} {n} count others first second third =
    let a : List ℕ = named_number (codes " count=") s.count in
    let b : List ℕ = bounds_text s in
    let c : List ℕ = named_number (codes " not_numbers=") s.not_numbers in
    let one_is : one ≡ old ++ a = first ∙ ap (λ (k : ℕ). old ++ named_number (codes " count=") k) count in
    let two_is : two ≡ old ++ a ++ b = second ∙ ap (λ (l : List ℕ). l ++ b) one_is in
    third ∙ ap (λ (k : ℕ). two ++ named_number (codes " not_numbers=") k) others
    ∙ ap (λ (l : List ℕ). l ++ c) (two_is ∙ append_assoc old a b) ∙ append_assoc old (a ++ b) c
floats_appended (Err e) s old new count others first second third = tt
