-- What a page says of how reading ended.
use Rattle.std.proofs.Common.{◌≡◌, ℕ, List, ◌++◌, Result, Ok, Err, OnOk, subst}
use Rattle.gotymbe_plan.specs.declared.ending.Ending.{Ending}
use Rattle.gotymbe_plan.specs.Endings.{AppendsReason}
use Rattle.gotymbe_plan.specs.Pages.{end_start, AddsEnd}

-- a reason after its file is an end
pub end_appended :
    {E : Type 0} (name : List ℕ) (ending : Ending) (old a new : List ℕ) (r : Result (Unit {0}) E) →
    a ≡ old ++ end_start old name → OnOk r (AppendsReason ending a new) → OnOk r (AddsEnd name ending old new)
end_appended name ending old a new (Err e) begins reason = reason
end_appended name ending old a new (Ok u) begins reason =
    subst (λ (x : List ℕ). AppendsReason ending x new) begins reason
