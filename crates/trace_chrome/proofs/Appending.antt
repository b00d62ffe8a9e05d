-- Bytes that are appended, one part after another.
use Rattle.std.proofs.Common.{◌≡◌, ℕ, ◌+◌, List, ◌++◌, replicate, Result, Ok, Err, OnOk, ap, ◌∙◌, append_assoc}
use Rattle.std.proofs.Common.{if◌then◌else◌}
use Rattle.std.specs.Result.{is_ok}
use Rattle.std.specs.List.{flat_map}
use Rattle.std.proofs.lemmas.List.{flat_map_more, replicate_more}

-- two parts
pub two_appended :
    {E : Type 0} (r : Result (Unit {0}) E) (old a b : List ℕ) {mid : List ℕ} (new : List ℕ) → mid ≡ old ++ a →
    OnOk r (new ≡ mid ++ b) → OnOk r (new ≡ old ++ (a ++ b))
two_appended (Ok u) old a b new first e = e ∙ ap (λ (x : List ℕ). x ++ b) first ∙ append_assoc old a b
two_appended (Err x) old a b new first e = tt

-- what a call says of its answer
pub when_ok :
    {E : Type 0} (r : Result (Unit {0}) E) (new a b : List ℕ) → new ≡ (if is_ok r then a else b) → OnOk r (new ≡ a)
when_ok (Ok u) new a b e = e
when_ok (Err x) new a b e = tt

-- one more of the same
pub one_more :
    {X : Type 0} (f : X → List ℕ) (n : ℕ) (y : X) (old : List ℕ) {mid new : List ℕ} →
    mid ≡ old ++ flat_map f (replicate n y) → new ≡ mid ++ f y → new ≡ old ++ flat_map f (replicate (n + 1) y)
one_more f n y old first e =
    e ∙ ap (λ (x : List ℕ). x ++ f y) first ∙ flat_map_more f old (replicate n y) y
    ∙ ap (λ l. old ++ flat_map f l) (replicate_more n y)
