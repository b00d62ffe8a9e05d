-- Which events are taken as they come.
use Rattle.std.specs.Prelude.{◌≡◌, ◌≢◌, ◌↔◌, ℕ, ℤ, ◌-◌, Bool, true, false, List, Option, Some, None, IfSome, IfNone}
use Rattle.std.specs.Prelude.{Result, Ok, Err}
use Rattle.gotymbe_plan.specs.declared.ending.Ending.{Ending}
use Rattle.gotymbe_plan.specs.declared.ending.Ending.TheVariants.{Whole, NoClock}
use Rattle.gotymbe_plan.specs.declared.filter.Filter.{Filter}
use Rattle.gotymbe_plan.specs.declared.picking.Picker.{Picker}
use Rattle.gotymbe_plan.specs.Filters.{IsWanted}
use Rattle.gotymbe_plan.specs.Moments.{IsFilterOf, IsAnyDate}

-- No more events are taken: as many were taken as are asked for, or a date is asked for and no clock is known.
abbrev pub IsOver : Picker → Ending → Type 0
IsOver picker Whole = picker.left ≡ 0
IsOver picker NoClock = (picker.left ≢ 0) × (picker.filter ≡ None)
IsOver picker ending = ⊥

-- how many more are taken after an event that was taken, or not
abbrev pub left_after : Bool → ℕ → ℕ
left_after true left = left - 1
left_after false left = left

-- an event of this name and time was taken exactly where it is asked for
pub record PicksOne (name : List ℕ) (time : ℕ) (old new : Picker) (taken : Bool) : Type 0 where
  pub filter : Filter
  pub known : old.filter ≡ Some filter
  pub asked : (taken ≡ true) ↔ IsWanted filter name time
  pub more : old.left ≢ 0
  pub after : new ≡ record { wanted = old.wanted; filter = old.filter; left = left_after taken old.left }

-- the same, or no more are taken
abbrev pub Picks : List ℕ → ℕ → Picker → Picker → Result Bool Ending → Type 0
Picks name time old new (Ok taken) = PicksOne name time old new taken
Picks name time old new (Err ending) = (new ≡ old) × IsOver old ending

-- where no clock was known, the filter is that of this one, if it is known now
pub record Learns (zero : Option ℤ) (old new : Picker) : Type 0 where
  pub wanted : new.wanted ≡ old.wanted
  pub left : new.left ≡ old.left
  pub kept : IfSome old.filter (λ filter. new.filter ≡ Some filter)
  pub some : old.filter ≡ None → IfSome new.filter (IsFilterOf new.wanted zero)
  pub none : old.filter ≡ None → IfNone new.filter ((zero ≡ None) × IsAnyDate new.wanted.from new.wanted.to)
