use Rattle.std.proofs.Common.{refl}
use Rattle.trace_events.specs.OwnedEvents.{owned_event}
use Rattle.trace_stats.specs.Events.{counted_event}
use Rattle.trace_stats.proofs.EventAddedToSchema.{event_added}
use Rattle.trace_stats.proofs.schema.SchemaStats.add_owned.Goals as goal

pub returns-clause-added : goal.returns-clause-added
returns-clause-added c =
    event_added c.add_owned_values.result (counted_event (owned_event c.args.event.now) c.args.bytes) c.args.self.now _
    refl c.in_ok-add.ensures.added c.in_ok-add-2.ensures.added c.add_owned_values.ensures.added
