-- For private contracts: values that are no ids and hold no others.
use Rattle.std.specs.Prelude.{Bool, true, false}
use Rattle.trace_values.specs.Values.{Value, pooled_text, pooled_stack, list, map}

abbrev pub is_flat : Value → Bool
is_flat (pooled_text id) = false
is_flat (pooled_stack id) = false
is_flat (list vs) = false
is_flat (map ps) = false
is_flat v = true
