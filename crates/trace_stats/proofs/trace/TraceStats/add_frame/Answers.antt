use Rattle.std.proofs.Common.{ap}
use Rattle.trace_wire.specs.Registries.{Registry}
use Rattle.dial9_trace_format.specs.DecodedFrames.{item_of}
use Rattle.trace_events.specs.OwnedEvents.{owned_event}
use Rattle.trace_stats.proofs.EventsOfRun.{event_counted, none_counted, same_events}
use Rattle.trace_stats.proofs.trace.TraceStats.add_frame.Goals as goal

pub returns-in-Some : goal.returns-in-Some
returns-in-Some c =
    event_counted c.add_owned.result _ (owned_event c.in-Some.event) c.args.bytes c.args.self.now c.add_owned.new.self
    (same_events (item_of c.args.frame.now) _ (ap (λ (r : Registry). r.wire_types) c.registry.ensures)
    c.string_pool-strings.ensures c.stack_pool-stacks.ensures c.in-Some.ensures.event) c.add_owned.ensures.added
    c.add_owned.ensures.refused c.add_owned.ensures.memory

pub returns-in-None : goal.returns-in-None
returns-in-None c =
    none_counted _ c.args.bytes c.args.self.now
    (same_events (item_of c.args.frame.now) _ (ap (λ (r : Registry). r.wire_types) c.registry.ensures)
    c.string_pool-strings.ensures c.stack_pool-stacks.ensures c.in-None.ensures.none)
