-- For private contracts: cells that are appended to a row.
use Rattle.std.specs.Prelude.{◌≡◌, ℕ, List, [], ◌∷◌, ◌++◌, OnOk, Result}
use Rattle.csv.specs.Records.{Row, fields_of, partial_of}
use Rattle.std.specs.Fmt.{decimal}
use Rattle.trace_values.specs.Values.{Value}
use Rattle.trace_wire.specs.Runs.{Pools}
use Rattle.trace_csv.specs.Cells.{AreCellsOf}

-- a cell of which something is so stands after those that stood there, and no part of another
pub record EndsIn (is : List ℕ → Type 0) (old new : Row) : Type 0 where
  pub cell : List ℕ
  pub is_so : is cell
  pub cells : fields_of new ≡ fields_of old ++ cell ∷ []
  pub whole : partial_of new ≡ []

-- such a cell was appended; or a growth was refused
abbrev pub PushesCell : {E : Type 0} → (List ℕ → Type 0) → Row → Row → Result (Unit {0}) E → Type 0
PushesCell is old new result = OnOk result (EndsIn is old new)

-- the cells of a time and of values
abbrev pub AreRowCells : Pools → ℕ → List Value → List (List ℕ) → Type 0
AreRowCells pools time vs cells =
    (values : List (List ℕ)) × AreCellsOf pools vs values × (cells ≡ decimal time ∷ values)
