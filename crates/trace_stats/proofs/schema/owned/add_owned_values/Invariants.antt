use Rattle.trace_events.specs.OwnedEvents.{owned_event}
use Rattle.trace_stats.proofs.EventAddedToSchema.{AddedBelow}
use Rattle.trace_stats.proofs.schema.owned.add_owned_values.Given as goal

abbrev pub invariant-fields : goal.invariant-fields
invariant-fields l = AddedBelow l.index (owned_event l.event) l.initial.fields.items l.fields.items
