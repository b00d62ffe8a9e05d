use Rattle.dial9_trace_format.specs.ShownEvents.{shown_event}
use Rattle.trace_stats.proofs.EventAddedToSchema.{AddedBelow}
use Rattle.trace_stats.proofs.schema.add_values.Given as goal

abbrev pub invariant-fields : goal.invariant-fields
invariant-fields l = AddedBelow l.index (shown_event l.event) l.initial.fields.items l.fields.items
