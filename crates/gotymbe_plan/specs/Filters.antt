-- Which events are asked for.
use Rattle.std.specs.Prelude.{◌≡◌, ◌⊎◌, ◌↔◌, ℕ, ◌≤◌, ◌<◌, ◌^◌, List, [], IfSome, Any}
use Rattle.std.specs.Borrow.{Bor}
use Rattle.gotymbe_plan.specs.declared.filter.Filter.{Filter}

-- not before the one time, and not after the other
abbrev pub IsInRange : Filter → ℕ → Type 0
IsInRange filter time = IfSome filter.from (λ from. from ≤ time) × IfSome filter.to (λ to. time ≤ to)

-- a name is one of these
abbrev pub IsAmong : List (Bor (List ℕ)) → List ℕ → Type 0
IsAmong names name = Any (λ wanted. wanted.now ≡ name) names

-- no name is asked for, or this one is
abbrev pub IsNamed : Filter → List ℕ → Type 0
IsNamed filter name = (filter.names.now ≡ []) ⊎ IsAmong filter.names.now name

-- both
abbrev pub IsWanted : Filter → List ℕ → ℕ → Type 0
IsWanted filter name time = IsInRange filter time × IsNamed filter name

-- the times from the one to the other, both included, are those that are asked for
abbrev pub HasBounds : Filter → ℕ × ℕ → Type 0
HasBounds filter bounds = (time : ℕ) → time < 2 ^ 64 →
    (bounds.0 ≤ time) × (time ≤ bounds.1) ↔ IsInRange filter time
