-- The clocks that traces say.
use Rattle.std.specs.Prelude.{◌≡◌, ℕ, ℤ, List, codes, Option, Some, None}
use Rattle.std.specs.FinMap.{FinMap}
use Rattle.std.specs.Ordering.{nat_cmp}
use Rattle.trace_wire.specs.Registries.{entry_under}
use Rattle.trace_wire.specs.Runs.{Item, AnnotationsItem}
use Rattle.trace_wire.specs.Schemas.{Entry, WireType}
use Rattle.trace_roles.specs.Roles.{of_schema, note_of}
use Rattle.trace_roles.specs.Clocks.{SaysClock}

-- the zero of the clock that a schema says; none where it is not known, or says no clock
abbrev pub IsZeroBy : Option Entry → Option ℤ → Type 0
IsZeroBy None zero = zero ≡ None
IsZeroBy (Some entry) (Some zero) =
    (name : List ℕ) × SaysClock (note_of entry of_schema (codes "clock")) name zero
IsZeroBy (Some entry) None =
    (name : List ℕ) (zero : ℤ) → ¬ SaysClock (note_of entry of_schema (codes "clock")) name zero

-- the zero of the clock that a frame says: one of annotations does so by the schema that it annotates, and no other
abbrev pub IsZeroSaid : FinMap nat_cmp WireType → Item → Option ℤ → Type 0
IsZeroSaid schemas (AnnotationsItem id notes) zero = IsZeroBy (entry_under schemas id) zero
IsZeroSaid schemas item zero = zero ≡ None
