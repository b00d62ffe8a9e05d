-- For private contracts: values of long events, of which a list of ids of texts stays in the input.
use Rattle.std.specs.Prelude.{ℕ, Bool, List, map as list_map, get_or, drop, ◌==◌}
use Rattle.std.specs.Int.{w32, from_le_bytes}
use Rattle.trace_values.specs.Reading.{values_to_items}
use Rattle.trace_values.specs.Refs.{ref_view}
use Rattle.trace_values.specs.Values.{Value, list, pooled_text}
use Rattle.trace_lines.specs.declared.listed.ListedValue.{ListedValue}
use Rattle.trace_lines.specs.declared.listed.ListedValue.TheVariants.{TextIds, Other}

-- whether an item of a list, of a tag and four bytes, is the id of a text
abbrev pub is_text_id : List ℕ → Bool
is_text_id item = get_or item 0 0 == 7

-- the id that it is
abbrev pub text_id : List ℕ → ℕ
text_id item = from_le_bytes w32 (drop 1 item)

abbrev pub text_id_value : List ℕ → Value
text_id_value item = pooled_text (text_id item)

-- a list of them
abbrev pub text_ids_value : List (List ℕ) → Value
text_ids_value items = list (values_to_items (list_map text_id_value items))

-- what a value means
abbrev pub listed_value : ListedValue → Value
listed_value (TextIds items) = text_ids_value items.now
listed_value (Other value) = ref_view value
