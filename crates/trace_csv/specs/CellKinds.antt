-- By what the cell of a value is made.
use Rattle.std.specs.Prelude.{◌≡◌}
use Rattle.json.specs.Json.{Json}
use Rattle.trace_json.specs.EventJson.{IsValueJson}
use Rattle.trace_json.specs.Lines.{json_text}
use Rattle.trace_values.specs.Values.{Value, text, pooled_text, number, float, absent}
use Rattle.trace_wire.specs.Runs.{Pools}
use Rattle.trace_csv.specs.Cells.{cell_of}
use Rattle.trace_csv.specs.declared.kinds.CellKind.{CellKind}
use Rattle.trace_csv.specs.declared.kinds.CellKind.TheVariants.{Text, PooledText, Natural, Float}
use Rattle.trace_csv.specs.declared.kinds.CellKind.TheVariants.{Absent, Json as ByJson}

-- the cell of a value is the text of its JSON, whatever the pools hold
abbrev pub HasJsonCell : Pools → Value → Type 0
HasJsonCell pools v = (j : Json) → IsValueJson pools v j → cell_of j ≡ json_text j

-- what a value is of which a cell is made in this way
abbrev pub IsCellKind : Value → CellKind → Type 0
IsCellKind v (Text s) = v ≡ text s.now
IsCellKind v (PooledText id) = v ≡ pooled_text id.0
IsCellKind v (Natural n) = v ≡ number n
IsCellKind v (Float bits) = v ≡ float bits
IsCellKind v Absent = v ≡ absent
IsCellKind v ByJson = (pools : Pools) → HasJsonCell pools v
