-- Where things stand in lists that tests and sets find them in.
use Rattle.std.proofs.Common.{◌≡◌, ℕ, zero, suc, ◌≤◌, Bool, true, false, cond, List, [], ◌∷◌, ◌++◌, Some}
use Rattle.std.proofs.Common.{None, is_some, refl, sym, ap, subst, ◌∙◌, get_or, length, map as list_map, arith}
use Rattle.std.proofs.lemmas.Bool.{true≢false, ltb-false}
use Rattle.std.proofs.lemmas.List.{map_push}
use Rattle.std.proofs.lemmas.List.Quantifiers.{position-Some}
use Rattle.std.proofs.lemmas.List.Sums.{fails_before_first}
use Rattle.std.proofs.lemmas.Option.{slice_get-map, slice_get-get_or}
use Rattle.std.specs.List.{All, position, position_or_len}
use Rattle.std.specs.Prelude.{if◌then◌else◌, option_map, slice_get}
use Rattle.trace_page.specs.parts.Writing.{IsLonger, StandsAt}
use Rattle.trace_page.proofs.Growing.{longer_refl}

-- what a key is stands at the key's index
pub stands_named : {A : Type 0} (seen : A → List ℕ) (keys : List A) (i : ℕ) (k : A) (x : List ℕ) →
    slice_get keys i ≡ Some k → x ≡ seen k → StandsAt (list_map seen keys) x i
stands_named seen keys i k x at same =
    slice_get-map seen keys i ∙ ap (option_map seen) at ∙ ap Some (sym same)

-- a key that passes a test is found at its index
pub found_at : {A : Type 0} (p : A → Bool) (xs : List A) (i : ℕ) → position p xs ≡ Some i →
    (k : A) × (slice_get xs i ≡ Some k) × (p k ≡ true)
found_at p [] i e = absurd (true≢false (sym (ap is_some e)))
found_at p (x ∷ xs) i e =
    let h = position-Some p (x ∷ xs) i x e in
    (get_or (x ∷ xs) i x, slice_get-get_or (x ∷ xs) i x h.0, h.1)

none_means : (b : Bool) (i : ℕ) → cond b (Some i) None ≡ None → b ≡ false
none_means true i e = absurd (true≢false (ap is_some e))
none_means false i e = refl

-- where none is found, each fails the test
pub all_fail : {A : Type 0} (p : A → Bool) (xs : List A) → position p xs ≡ None → All (λ x. p x ≡ false) xs
all_fail p xs e = λ k d lt.
    let past : length xs ≤ position_or_len p xs =
    ltb-false (position_or_len p xs) (length xs) (none_means _ (position_or_len p xs) e) in
    fails_before_first p xs k d (omega (arith, past, lt))

inserted_by : {A : Type 0} (seen : A → List ℕ) (keys : List A) (k : A) (b : Bool) →
    IsLonger (list_map seen keys) (list_map seen (if b then keys else keys ++ k ∷ []))
inserted_by seen keys k true = longer_refl (list_map seen keys)
inserted_by seen keys k false = (seen k ∷ [], map_push seen keys k)

-- a key that was inserted comes last or was there
pub inserted : {A : Type 0} (seen : A → List ℕ) (keys new : List A) (k : A) (b : Bool) →
    new ≡ (if b then keys else keys ++ k ∷ []) → IsLonger (list_map seen keys) (list_map seen new)
inserted {A} seen keys new k b e =
    subst (λ (l : List A). IsLonger (list_map seen keys) (list_map seen l)) (sym e) (inserted_by seen keys k b)

-- what is read at an index is read there whatever stands for what is not there
pub read_again : (xs : List ℕ) (i : ℕ) → get_or xs i 0 ≡ get_or xs i (get_or xs i 0)
read_again [] i = refl
read_again (x ∷ xs) zero = refl
read_again (x ∷ xs) (suc i) = read_again xs i
