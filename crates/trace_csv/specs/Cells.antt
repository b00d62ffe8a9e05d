-- What cells of a table an event is.
use Rattle.std.specs.Prelude.{◌≡◌, ℕ, List, [], ◌∷◌}
use Rattle.std.specs.Fmt.{decimal}
use Rattle.json.specs.Json.{Json, null, boolean, number, string, array, object}
use Rattle.trace_json.specs.EventJson.{IsValueJson}
use Rattle.trace_json.specs.Lines.{json_text}
use Rattle.trace_values.specs.Values.{Value}
use Rattle.trace_wire.specs.Runs.{Pools}
use Rattle.dial9_trace_format.specs.ShownEvents.{ShownEvent}

-- the cell of JSON: a string as it is, nothing for `null`, and its text for all else
abbrev pub cell_of : Json → List ℕ
cell_of null = []
cell_of (string s) = s
cell_of j = json_text j

-- the cell of a value, with what the pools hold in place of ids
abbrev pub IsCellOf : Pools → Value → List ℕ → Type 0
IsCellOf pools v cell = (j : Json) × IsValueJson pools v j × (cell ≡ cell_of j)

-- the cells of values, in order
abbrev pub AreCellsOf : Pools → List Value → List (List ℕ) → Type 0
AreCellsOf pools [] cells = cells ≡ []
AreCellsOf pools (v ∷ vs) cells =
    (cell : List ℕ) × (rest : List (List ℕ)) × (cells ≡ cell ∷ rest) × IsCellOf pools v cell × AreCellsOf pools vs rest

-- the cells of an event: its time in nanoseconds, and its values
abbrev pub AreEventCells : ShownEvent → List (List ℕ) → Type 0
AreEventCells e cells =
    (values : List (List ℕ)) × AreCellsOf e.pools e.values values × (cells ≡ decimal e.time ∷ values)
