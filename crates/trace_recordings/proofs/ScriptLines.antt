-- Lines of a script, one after another.
use Rattle.std.proofs.Common.{◌≡◌, ◌≢◌, codes, true, ℕ, ◌+◌, ◌-◌, ◌<◌, ◌==◌, List, [], ◌∷◌, ◌++◌, length, take, drop}
use Rattle.std.proofs.Common.{get_or, false, Option, Some, None, refl, sym, ◌∙◌, ap, subst, append_assoc, arith}
use Rattle.std.specs.List.{position_or_len}
use Rattle.std.proofs.lemmas.Bool.Decides.{Decides-eqb, nat_tests}
use Rattle.std.proofs.lemmas.Grind.{common_steps}
use Rattle.std.proofs.lemmas.List.Elements.{All-from_get_or}
use Rattle.std.proofs.lemmas.List.Splits.{slice_split_first, slice_split_none}
use Rattle.std.proofs.lemmas.List.Sums.{position_or_len_is}
use Rattle.trace_recordings.specs.declared.script.ScriptError.{ScriptError}
use Rattle.trace_recordings.specs.declared.script.line_error.LineError.TheVariants.{Memory}
use Rattle.trace_recordings.specs.declared.script.call.ScriptCall.{ScriptCall}
use Rattle.trace_recordings.specs.declared.script.call.ScriptCall.TheVariants.{Nothing, Define, Register, Event}
use Rattle.trace_recordings.specs.declared.script.call.ScriptCall.TheVariants.{DefineType, WriteTyped, InternString}
use Rattle.trace_recordings.specs.declared.script.call.ScriptCall.TheVariants.{InternStack, StringPool, StackPool}
use Rattle.trace_recordings.specs.declared.script.call.ScriptCall.TheVariants.{Reset, Resume, Raw, Bare}
use Rattle.trace_recordings.specs.Scripts.{Says, SayEach, lines_of, IsScript, IsBrokenAt, IsFirstLine, GainsCall}
use Rattle.trace_recordings.specs.Scripts.{SaysNoWord, is_silent}
use Rattle.trace_recordings.specs.Tallies.{counted_up}

-- numbers that differ fail the test for equality
pub not_equal : (x y : ℕ) → (x ≡ y → ⊥) → (x == y) ≡ false
not_equal x y h = grind (arith, nat_tests)

-- one more line, and the call that it says
SayEach-append :
    (lines : List (List ℕ)) (calls : List ScriptCall) (line : List ℕ) (call : ScriptCall) → SayEach lines calls →
    Says call line → SayEach (lines ++ line ∷ []) (calls ++ call ∷ [])
SayEach-append [] [] line call each says = (says, tt)
SayEach-append [] (c ∷ calls) line call each says = absurd each
SayEach-append (l ∷ lines) [] line call each says = absurd each
SayEach-append (l ∷ lines) (c ∷ calls) line call each says =
    (each.0, SayEach-append lines calls line call each.1 says)

-- the lines of the text say the calls, up to those of the rest
pub record SayFront (text : List ℕ) (calls : List ScriptCall) (rest : List ℕ) : Type 0 where
  pub front : List (List ℕ)
  pub said : SayEach front calls
  pub parts : lines_of text ≡ front ++ lines_of rest

pub at_start : (text : List ℕ) → SayFront text [] text
at_start text = record { front = []; said = tt; parts = refl }

-- a further line, with more after it
pub one_more :
    (text rest more line : List ℕ) (calls gained : List ScriptCall) → SayFront text calls rest →
    IsFirstLine rest line (Some more) → GainsCall calls gained line → SayFront text gained more
one_more text rest more line calls gained before first gains = record {
  front = before.front ++ line ∷ [];
  said =
      let said : SayEach (before.front ++ line ∷ []) (calls ++ gains.call ∷ []) = SayEach-append before.front calls
      line
      gains.call before.said gains.says in
      subst (λ (c : List ScriptCall). SayEach (before.front ++ line ∷ []) c) (sym gains.gained) said;
  parts =
      before.parts ∙ ap (λ (t : List (List ℕ)). before.front ++ t) first
      ∙ sym (append_assoc before.front (line ∷ []) (lines_of more));
}

-- the last line
pub the_last :
    (text rest line : List ℕ) (calls gained : List ScriptCall) → SayFront text calls rest → IsFirstLine rest line None
    →
    GainsCall calls gained line → IsScript gained text
unfolding IsScript
the_last text rest line calls gained before first gains =
    let said : SayEach (before.front ++ line ∷ []) (calls ++ gains.call ∷ []) =
    SayEach-append before.front calls line gains.call before.said gains.says in
    let lines : lines_of text ≡ before.front ++ line ∷ [] =
    before.parts ∙ ap (λ (t : List (List ℕ)). before.front ++ t) first in
    rw (gains.gained, lines) said

as_many : (lines : List (List ℕ)) (calls : List ScriptCall) → SayEach lines calls → length lines ≡ length calls
as_many [] [] each = refl
as_many [] (c ∷ calls) each = absurd each
as_many (l ∷ lines) [] each = absurd each
as_many (l ∷ lines) (c ∷ calls) each = omega (arith, as_many lines calls each.1)

-- the next line is broken
pub broken_at :
    (text rest line : List ℕ) (more : Option (List ℕ)) (calls : List ScriptCall) (error : ScriptError) →
    SayFront text calls rest → IsFirstLine rest line more → error.line ≡ counted_up (length calls) 1 →
    (error.error ≢ Memory → SaysNoWord line) → IsBrokenAt text error
broken_at text rest line None calls error front first n u = record {
  before = front.front;
  calls = calls;
  said = front.said;
  broken = line;
  after = [];
  parts = front.parts ∙ ap (λ (t : List (List ℕ)). front.front ++ t) first;
  unsaid = u;
  counts = n ∙ ap (λ (k : ℕ). counted_up k 1) (sym (as_many front.front calls front.said));
}
broken_at text rest line (Some more) calls error front first n u = record {
  before = front.front;
  calls = calls;
  said = front.said;
  broken = line;
  after = lines_of more;
  parts = front.parts ∙ ap (λ (t : List (List ℕ)). front.front ++ t) first;
  unsaid = u;
  counts = n ∙ ap (λ (k : ℕ). counted_up k 1) (sym (as_many front.front calls front.said));
}

-- a line that is none of these says no call of one word
pub no_word :
    (line : List ℕ) → is_silent line ≡ false → line ≢ codes "reset" → line ≢ codes "resume" → line ≢ codes "bare" →
    SaysNoWord line
no_word line loud reset resume bare Nothing word says = absurd (let wrong : true ≡ false = sym says ∙ loud in cc)
no_word line loud reset resume bare (Define handle definition) word says = word
no_word line loud reset resume bare (Register handle) word says = word
no_word line loud reset resume bare (Event handle time values) word says = word
no_word line loud reset resume bare (DefineType handle slot definition) word says = word
no_word line loud reset resume bare (WriteTyped handle time values) word says = word
no_word line loud reset resume bare (InternString text) word says = word
no_word line loud reset resume bare (InternStack frames) word says = word
no_word line loud reset resume bare (StringPool entries) word says = word
no_word line loud reset resume bare (StackPool entries) word says = word
no_word line loud reset resume bare Reset word says = reset says
no_word line loud reset resume bare Resume word says = resume says
no_word line loud reset resume bare (Raw bytes) word says = word
no_word line loud reset resume bare Bare word says = bare says

-- a line feed, and none before it
pub feed_at :
    (text : List ℕ) (at : ℕ) → at < length text → get_or text at 0 ≡ 10 →
    ((k : ℕ) → k < at → get_or text k 0 ≡ 10 → ⊥) →
    lines_of text ≡ take at text ∷ lines_of (take (length text - (at + 1)) (drop (at + 1) text))
feed_at text at inside here before =
    let none : (k : ℕ) → k < at → (get_or text k 0 == 10) ≡ false =
    λ k h. not_equal (get_or text k 0) 10 (before k h) in
    let place : position_or_len (λ b. b == 10) text ≡ at =
    position_or_len_is (λ b. b == 10) text at 0 (omega arith) none
    (λ _. (Decides-eqb (get_or text at 0) 10).1 here) in
    let near : position_or_len (λ b. b == 10) text < length text = rw place inside in
    let parts = slice_split_first (λ b. b == 10) text 0 near in
    let whole : take (length text - (at + 1)) (drop (at + 1) text)
    ≡ drop (at + 1) text = grind (arith, common_steps) in
    rw whole (rw place at parts)

-- no line feed
pub no_feed : (text : List ℕ) → ((k : ℕ) → k < length text → get_or text k 0 ≡ 10 → ⊥) → lines_of text ≡ text ∷ []
no_feed text none =
    slice_split_none (λ b. b == 10) text
    (All-from_get_or (λ b. (b == 10) ≡ false) text 0 (λ k h. not_equal (get_or text k 0) 10 (none k h)))
