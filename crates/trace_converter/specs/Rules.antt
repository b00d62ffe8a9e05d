-- Rules: which events are converted, and which of their fields are kept.
use Rattle.std.specs.Prelude.{◌≡◌, ℕ, Bool, List, [], ◌∷◌, map, nat_eq, Option, Some, None, option_map, if◌then◌else◌}
use Rattle.std.specs.Borrow.{Bor}
use Rattle.trace_values.specs.declared.types.field_type.FieldType.{FieldType}
use Rattle.trace_values.specs.Values.{Value}
use Rattle.std.specs.Cmp.Lexicographic.{pointwise}
use Rattle.trace_wire.specs.Schemas.{Field, Entry}
use Rattle.trace_writer.specs.Calls.{bare_schema}
use Rattle.dial9_trace_format.specs.ShownEvents.{ShownEvent}
use Rattle.trace_converter.specs.declared.rules.Rule.{Rule}

-- two texts are one
abbrev pub same_text : List ℕ → List ℕ → Bool
same_text = pointwise nat_eq

-- the first rule for the events of a schema of this name
abbrev pub rule_for : List Rule → List ℕ → Option Rule
rule_for [] name = None
rule_for (rule ∷ rules) name = if same_text rule.from.now name then Some rule else rule_for rules name

-- the type and the value of the first field that has this name
abbrev pub field_named : List ℕ → List Field → List Value → Option (FieldType × Value)
field_named name [] values = None
field_named name (f ∷ fields) [] = None
field_named name (f ∷ fields) (v ∷ values) =
    if same_text f.name name then Some (f.field_type, v) else field_named name fields values

-- the same under its new name
abbrev pub renamed : ShownEvent → Bor (List ℕ) × Bor (List ℕ) → Option (Field × Value)
renamed e names = option_map (λ x. (record { name = names.1.now; field_type = x.0 }, x.1))
    (field_named names.0.now e.entry.fields e.values)

-- these fields and values are those of the names, in order
abbrev pub AreKept : ShownEvent → List (Bor (List ℕ) × Bor (List ℕ)) → List (Field × Value) → Type 0
AreKept e names kept = map (renamed e) names ≡ map Some kept

-- the schema of what a rule makes
abbrev pub new_entry : Rule → List (Field × Value) → Entry
new_entry rule kept = bare_schema rule.to.now (map (λ x. x.0) kept)

-- the values as they were
abbrev pub old_values : List (Field × Value) → List Value
old_values kept = map (λ x. x.1) kept
