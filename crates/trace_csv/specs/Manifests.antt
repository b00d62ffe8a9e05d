-- What is told of a table.
use Rattle.std.specs.Prelude.{ℕ, List, [], ◌∷◌, map, codes}
use Rattle.std.specs.Fmt.{decimal}
use Rattle.json.specs.Json.{Json, number, string}
use Rattle.trace_wire.specs.Schemas.{Field, Entry}
use Rattle.dial9_trace_format.specs.ShownEvents.{names_of}
use Rattle.trace_json.specs.EventJson.{list_json, object_json}

-- the names of fields, in order
abbrev pub names_json : List Field → Json
names_json fields = list_json (map string (names_of fields))

-- an object: the name of the table, that of the schema whose events it has, how many rows, and the names of the fields
abbrev pub manifest_json : List ℕ → Entry → ℕ → Json
manifest_json table schema rows =
    object_json
    ((codes "table", string table) ∷ (codes "schema", string schema.name) ∷ (codes "rows", number (decimal rows))
    ∷ (codes "fields", names_json schema.fields) ∷ [])
