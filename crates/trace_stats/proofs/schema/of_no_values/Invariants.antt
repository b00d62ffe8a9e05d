use Rattle.std.proofs.Common.{[]}
use Rattle.trace_stats.specs.Events.{AreFieldsOf}
use Rattle.trace_stats.proofs.schema.of_no_values.Given as goal

abbrev pub invariant-fields : goal.invariant-fields
invariant-fields l = AreFieldsOf l.counter [] l.fields.items
