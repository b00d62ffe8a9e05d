-- How a schema or a type of events stands in a line of a script.
use Rattle.std.specs.Prelude.{List, ℕ, ◌++◌, codes, decimal, string_bytes}
use Rattle.std.specs.List.{flat_map}
use Rattle.trace_lines.specs.Lines.{quoted, pair_text, field_text}
use Rattle.trace_recordings.specs.declared.script.definitions.ScriptAnnotation.{ScriptAnnotation}
use Rattle.trace_recordings.specs.declared.script.definitions.Definition.{Definition}

-- an annotation: a space, `@` and the index of its field, a colon, the key, an equals sign, the value
unfoldable pub annotation_part : ScriptAnnotation → List ℕ
annotation_part a = codes " @" ++ decimal a.index ++ codes ":" ++ pair_text (string_bytes a.key, string_bytes a.value)

-- the name, then each field and each annotation
unfoldable pub definition_text : Definition → List ℕ
definition_text d =
    quoted (string_bytes d.name) ++ flat_map field_text d.fields.items ++ flat_map annotation_part d.annotations.items
