-- One more of a name.
use Rattle.std.proofs.Common.{◌≡◌, ℕ, zero, suc, ◌<◌, ◌≤◌, nat_lt, Bool, true, false, cond, Some, None, List, [], ◌∷◌}
use Rattle.std.proofs.Common.{◌++◌, length, set, get_or, refl, sym, subst, arith}
use Rattle.std.specs.List.{position, position_or_len}
use Rattle.std.proofs.lemmas.Bool.{ltb-true, ltb-false}
use Rattle.std.proofs.lemmas.Option.{cond_some}
use Rattle.std.proofs.lemmas.List.Sums.{fails_before_first, passes_at_first}
use Rattle.trace_recordings.specs.declared.tally.LeftOut.{LeftOut}
use Rattle.trace_recordings.specs.Tallies.{counted_up, counts_of, is_named, one_more_of}

-- the new count of what has the name
pub record IsCounted (old new : LeftOut) : Type 0 where
  pub name : new.name.now ≡ old.name.now
  pub count : new.count ≡ counted_up old.count 1

counted_at :
    (name : List ℕ) (xs : List LeftOut) (i : ℕ) (y d : LeftOut) → i < length xs →
    ((k : ℕ) → k < i → is_named name (get_or xs k d) ≡ false) → is_named name (get_or xs i d) ≡ true →
    IsCounted (get_or xs i d) y → counts_of (set xs i y) ≡ one_more_of name (counts_of xs)
counted_at name [] i y d inside before here counted = absurd (omega (arith, inside))
counted_at name (x ∷ xs) zero y d inside before here counted = rw (here, counted.name, counted.count)
counted_at name (x ∷ xs) (suc i) y d inside before here counted =
    let first : is_named name x ≡ false = before 0 (omega arith) in
    let later : counts_of (set xs i y) ≡ one_more_of name (counts_of xs) =
    counted_at name xs i y d (omega (arith, inside)) (λ k h. before (suc k) (omega (arith, h))) here counted in
    rw (first, later)

no_place : (b : Bool) (n : ℕ) → None ≡ cond b (Some n) None → b ≡ false
no_place true n h = absurd (cc)
no_place false n h = refl

-- the first of the name is counted
pub counted_first :
    (name : List ℕ) (xs : List LeftOut) (i : ℕ) (old new d : LeftOut) → Some i ≡ position (is_named name) xs →
    old ≡ get_or xs i d → IsCounted old new → counts_of (set xs i new) ≡ one_more_of name (counts_of xs)
counted_first name xs i old new d index is counted =
    let p = is_named name in
    let found = cond_some (nat_lt (position_or_len p xs) (length xs)) (position_or_len p xs) i (sym index) in
    let inside : position_or_len p xs < length xs = ltb-true (position_or_len p xs) (length xs) found.0 in
    let before : (k : ℕ) → k < i → p (get_or xs k d) ≡ false =
    λ k h. fails_before_first p xs k d (omega (arith, h, found.1)) in
    let here : p (get_or xs i d) ≡ true = rw (sym found.1) (passes_at_first p xs d inside) in
    counted_at name xs i new d (omega (arith, inside, found.1)) before here
    (subst (λ (l : LeftOut). IsCounted l new) is counted)

not_named :
    (name : List ℕ) (xs : List LeftOut) (d : LeftOut) →
    ((k : ℕ) → k < length xs → is_named name (get_or xs k d) ≡ false) →
    one_more_of name (counts_of xs) ≡ counts_of xs ++ (name, 1) ∷ []
not_named name [] d none = refl
not_named name (x ∷ xs) d none =
    let first : is_named name x ≡ false = none 0 (omega arith) in
    let later : one_more_of name (counts_of xs) ≡ counts_of xs ++ (name, 1) ∷ [] =
    not_named name xs d (λ k h. none (suc k) (omega (arith, h))) in
    rw (first, later)

-- none has the name
pub counted_new :
    (name : List ℕ) (xs : List LeftOut) (d : LeftOut) → None ≡ position (is_named name) xs →
    one_more_of name (counts_of xs) ≡ counts_of xs ++ (name, 1) ∷ []
counted_new name xs d index =
    let p = is_named name in
    let none : length xs ≤ position_or_len p xs =
    ltb-false (position_or_len p xs) (length xs)
    (no_place (nat_lt (position_or_len p xs) (length xs)) (position_or_len p xs) index) in
    not_named name xs d (λ k h. fails_before_first p xs k d (omega (arith, h, none)))
