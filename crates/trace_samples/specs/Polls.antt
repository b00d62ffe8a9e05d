-- The values of polls.
use Rattle.std.specs.Prelude.{List, [], ◌∷◌}
use Rattle.trace_values.specs.TraceFields.{value_of_option}
use Rattle.trace_values.specs.Values.{Value, number, pooled_text}
use Rattle.trace_samples.specs.declared.events.polls.Poll.{Poll}

-- a worker, the number of a core where it is known, and the id of a label
abbrev pub poll_values : Poll → List Value
poll_values e = number e.worker ∷ value_of_option number e.cpu ∷ pooled_text e.label.0 ∷ []
