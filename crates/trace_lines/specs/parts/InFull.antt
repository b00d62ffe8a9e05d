-- For private contracts: values as a line shows them, as they are or with texts and stacks in place of ids.
use Rattle.std.specs.Prelude.{⊤, List, Result}
use Rattle.trace_values.specs.Values.{Value}
use Rattle.dial9_trace_format.specs.declared.resolve.error.DeserError.{DeserError}
use Rattle.dial9_trace_format.specs.parts.Resolving.{as_pools}
use Rattle.dial9_trace_format.specs.Resolving.{in_full, Resolves}
use Rattle.trace_lines.specs.declared.value.Shown.{Shown}
use Rattle.trace_lines.specs.declared.value.Shown.TheVariants.{Plain, InFull}

-- what a line shows of a value
abbrev pub shown_in : Shown → Value → Value
shown_in Plain v = v
shown_in (InFull strings stacks) v = in_full (as_pools strings.now stacks.now) v

-- nothing is unresolved, or this is the first of it
abbrev pub IsKnown : List DeserError → Result (Unit {0}) DeserError → Type 0
IsKnown unresolved result = Resolves unresolved (λ _. ⊤) result
