use Rattle.std.proofs.Common.{◌<◌, length, refl, rules}
use Rattle.std.specs.Vec.{with_item}
use Rattle.trace_events.specs.OwnedEvents.{owned_event}
use Rattle.trace_stats.specs.Events.{counted_event}
use Rattle.trace_stats.specs.declared.trace.TraceStats.{TraceStats}
use Rattle.trace_stats.proofs.EventAddedToTrace.{placed_inside, event_taken, event_refused}
use Rattle.trace_stats.proofs.trace.TraceStats.add_owned.Goals as goal

pub index_mut-requires : goal.index_mut-requires
index_mut-requires c =
    let inside : c.in_ok-place.place < length c.place_for.new.self.schemas.items =
    placed_inside _ _ _ _ c.in_ok-place.ensures.placed in
    search rules

pub returns-clause-added : goal.returns-clause-added
returns-clause-added c =
    event_taken c.add_owned.result (counted_event (owned_event c.args.event.now) c.args.bytes) c.args.self.now _
    c.index_mut.result.now c.add_owned.new.self c.answer_of.ensures c.in_ok-place.ensures.placed
    (record { at = c.index_mut.ensures.value; put = refl; same = c.add_owned.ensures.schema }) c.add_owned.ensures.added

pub returns-clause-refused : goal.returns-clause-refused
returns-clause-refused c =
    let new : TraceStats = record {
      alloc = c.place_for.new.self.alloc;
      schemas = with_item c.place_for.new.self.schemas c.in_ok-place.place c.add_owned.new.self;
      guesses = c.place_for.new.self.guesses;
    } in
    event_refused c.add_owned.result (counted_event (owned_event c.args.event.now) c.args.bytes) c.args.self.now new
    c.index_mut.result.now c.answer_of.ensures c.in_ok-place.ensures.placed c.index_mut.ensures.value
    c.add_owned.ensures.full
