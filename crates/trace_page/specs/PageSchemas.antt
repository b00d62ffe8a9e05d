-- What JSON a schema is in the data of a page.
use Rattle.std.specs.Prelude.{ℕ, zero, suc, List, [], ◌∷◌, ◌++◌, Option, Some, None, codes, length}
use Rattle.std.specs.Prelude.{if◌then◌else◌, nat_lt, option_map, slice_get}
use Rattle.std.specs.Fmt.{decimal}
use Rattle.json.specs.Json.{Json, null, number, string}
use Rattle.trace_values.specs.FieldTypes.{tag}
use Rattle.trace_wire.specs.Schemas.{Field, Entry}
use Rattle.trace_json.specs.EventJson.{list_json, object_json}
use Rattle.trace_roles.specs.Roles.{of_schema, note_of, field_with_role, track_of}
use Rattle.trace_roles.specs.Units.{counter_of}
use Rattle.trace_roles.specs.declared.units.CounterKind.{CounterKind}
use Rattle.trace_roles.specs.declared.units.CounterKind.TheVariants as kinds
use Rattle.trace_page.specs.PageValues.{index_json, natural_json}
use Rattle.trace_page.specs.declared.schemas.PageSchema.{PageSchema}

-- a text, or null where there is none
abbrev pub text_or_null : Option (List ℕ) → Json
text_or_null (Some s) = string s
text_or_null None = null

-- an index, or null where there is none
abbrev pub index_or_null : Option ℕ → Json
index_or_null (Some i) = index_json i
index_or_null None = null

-- the roles of a schema's fields
abbrev pub roles_json : Entry → Json
roles_json e =
    object_json
    ((codes "tid", index_or_null (track_of e))
    ∷ (codes "duration", index_or_null (field_with_role e (codes "duration")))
    ∷ (codes "name", index_or_null (field_with_role e (codes "name")))
    ∷ (codes "begin", text_or_null (note_of e of_schema (codes "begin")))
    ∷ (codes "end", text_or_null (note_of e of_schema (codes "end"))) ∷ [])

-- the name of a kind of counter
abbrev pub counter_name : CounterKind → List ℕ
counter_name kinds.Gauge = codes "gauge"
counter_name kinds.Counter = codes "counter"
counter_name kinds.UpDownCounter = codes "updown-counter"

-- the unit and the kind of counter of the field with an index
abbrev pub unit_at : Entry → ℕ → Option (List ℕ)
unit_at e i = if nat_lt i of_schema then note_of e i (codes "unit") else None

abbrev pub counter_at : Entry → ℕ → Option (List ℕ)
counter_at e i = if nat_lt i of_schema then option_map counter_name (counter_of e i) else None

-- a field and its index
abbrev pub field_json : Entry → ℕ → Field → Json
field_json e i f =
    object_json
    ((codes "name", string f.name) ∷ (codes "type", number (decimal (tag f.field_type)))
    ∷ (codes "unit", text_or_null (unit_at e i)) ∷ (codes "counter", text_or_null (counter_at e i)) ∷ [])

-- the field with an index, if there is one
abbrev pub field_at : Entry → ℕ → Option Field → List Json
field_at e i (Some f) = field_json e i f ∷ []
field_at e i None = []

-- the first fields, so many of them
abbrev pub first_fields : Entry → ℕ → List Json
first_fields e zero = []
first_fields e (suc n) = first_fields e n ++ field_at e n (slice_get e.fields n)

-- a schema, and how many bytes its events have
abbrev pub schema_json : PageSchema → Json
schema_json s =
    object_json
    ((codes "name", string s.entry.name) ∷ (codes "bytes", natural_json s.bytes) ∷ (codes "roles", roles_json s.entry)
    ∷ (codes "fields", list_json (first_fields s.entry (length s.entry.fields))) ∷ [])
