-- The pairs of a map of texts, taken one by one from the front of their bytes.
use Rattle.std.proofs.Common.{◌≡◌, ℕ, ◌+◌, ◌-◌, ◌<◌, ◌≤◌, List, [], ◌∷◌, ◌++◌, length, Option, Some, None, Result}
use Rattle.std.proofs.Common.{Ok, Err}
use Rattle.std.proofs.Common.{refl, sym, ap, subst, arith}
use Rattle.std.specs.List.{flat_map}
use Rattle.std.specs.Result.{IsOk}
use Rattle.trace_values.specs.Raw.{pairs_in}
use Rattle.trace_values.specs.RawViews.{string_map_view}
use Rattle.trace_values.specs.Reading.{Finds, all_more, all_of, text_pair_at, times_at}
use Rattle.trace_values.specs.Values.{text_pair}
use Rattle.trace_values.specs.declared.types.stop.Stop.{Stop}
use Rattle.trace_values.specs.declared.types.stop.Stop.TheVariants as stops
use Rattle.trace_values.specs.declared.types.string_map_ref.StringMapRef.{StringMapRef}
use Rattle.trace_values.proofs.OptionsAndBytes.{none_some, some_is}
use Rattle.trace_values.proofs.RawPairs.{all_left}
use Rattle.trace_values.proofs.ReadingLoop.{ends, goes_on}

abbrev Pair : Type 0
Pair = List ℕ × List ℕ

-- so many pairs stand there, and nothing after them
abbrev pub AreWhole : ℕ → List ℕ → Type 0
AreWhole n rest = times_at text_pair_at n rest ≡ Some (pairs_in n rest, [])

from_more :
    (front : List Pair) (read : Option (List Pair × List ℕ)) (all : List Pair) → all_more front read ≡ Some (all, [])
    → (read ≡ Some (all_of read, [])) × (all ≡ front ++ all_of read)
from_more front None all e = absurd (none_some (all, []) e)
from_more front (Some x) all e =
    let same = some_is (front ++ x.0, x.1) (all, []) e in (
      ap (λ (s : List ℕ). Some (x.0, s)) (ap (λ (y : List Pair × List ℕ). y.1) same),
      sym (ap (λ (y : List Pair × List ℕ). y.0) same),
    )

-- at first these are all pairs of the map
pub all_stand :
    (m : StringMapRef) (n : ℕ) (rest : List ℕ) → n ≡ length (string_map_view m)
    → rest ≡ flat_map text_pair (string_map_view m)
    → AreWhole (n - 0) rest × (string_map_view m ≡ pairs_in (n - 0) rest)
all_stand m n rest count is =
    from_more [] (times_at text_pair_at (n - 0) rest) (string_map_view m) (all_left m [] n rest refl count is)

-- while one is left it can be read
pub one_can_be_read :
    {X : Type 0} (seen : X → Pair × List ℕ) (r : Result X Stop) (n i : ℕ) (rest : List ℕ) → i < n
    → Finds seen r (text_pair_at rest) → AreWhole (n - i) rest → IsOk r
one_can_be_read seen (Ok x) n i rest lt found whole = refl
one_can_be_read seen (Err e) n i rest lt found whole =
    let all = Some (pairs_in (n - i) rest, []) in
    let none : all ≡ None = ends text_pair_at stops.Unread [] n i rest all lt found.1 (ap (all_more []) whole) in
    absurd (none_some (pairs_in (n - i) rest, []) (sym none))

-- it is the first of them, and the others are left after it
pub one_is_read :
    {X : Type 0} {r : Result X Stop} {x : X} (seen : X → Pair × List ℕ) (n i : ℕ) (rest : List ℕ) → i < n
    → Finds seen r (text_pair_at rest) → r ≡ Ok x → AreWhole (n - i) rest
    → AreWhole (n - (i + 1)) (seen x).1 × (pairs_in (n - i) rest ≡ (seen x).0 ∷ pairs_in (n - (i + 1)) (seen x).1)
one_is_read {X} {x = x} seen n i rest lt found is whole =
    let here = subst (λ (y : Result X Stop). Finds seen y (text_pair_at rest)) is found in
    from_more ((seen x).0 ∷ []) (times_at text_pair_at (n - (i + 1)) (seen x).1) (pairs_in (n - i) rest)
    (goes_on text_pair_at [] n i rest lt here (ap (all_more []) whole))

-- at the end none are left
pub none_left : (n i : ℕ) (rest : List ℕ) → n ≤ i → pairs_in (n - i) rest ≡ []
unfolding times_at
none_left n i rest le =
    let none : n - i ≡ 0 = omega arith in
    ap (λ (k : ℕ). pairs_in k rest) none
