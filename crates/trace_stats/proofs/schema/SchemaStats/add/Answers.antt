use Rattle.std.proofs.Common.{refl}
use Rattle.dial9_trace_format.specs.ShownEvents.{shown_event}
use Rattle.trace_stats.specs.Events.{counted_event}
use Rattle.trace_stats.proofs.EventAddedToSchema.{event_added}
use Rattle.trace_stats.proofs.schema.SchemaStats.add.Goals as goal

pub returns-clause-added : goal.returns-clause-added
returns-clause-added c =
    event_added c.add_values.result (counted_event (shown_event c.args.event.now) c.args.bytes) c.args.self.now _ refl
    c.in_ok-add.ensures.added c.in_ok-add-2.ensures.added c.add_values.ensures.added
