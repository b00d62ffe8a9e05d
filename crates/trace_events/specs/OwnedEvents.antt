-- Events whose values own their memory.
use Rattle.std.specs.Prelude.{ℕ, List, []}
use Rattle.std.specs.FinMap as map
use Rattle.std.specs.Ordering.{nat_cmp}
use Rattle.trace_values.specs.ValueViews.{views}
use Rattle.trace_wire.specs.Schemas.{WireType}
use Rattle.trace_wire.specs.Runs.{Item, EventItem}
use Rattle.dial9_trace_format.specs.ShownEvents.{ShownEvent}
use Rattle.dial9_trace_format.specs.Sinks.{event_by}
use Rattle.trace_events.specs.declared.event.OwnedEvent.{OwnedEvent}

-- the event that an item is, with what its wire id stands for and the pools; other items are none
abbrev pub events_in : map.FinMap nat_cmp WireType → map.FinMap nat_cmp (List ℕ) → map.FinMap nat_cmp (List ℕ)
    → Item → List ShownEvent
events_in types strings stacks (EventItem id time values) =
    event_by (map.get types id) (record { strings = strings; stacks = stacks }) id time values
events_in types strings stacks shown = []

-- what an event shows whose values own their memory
abbrev pub owned_event : OwnedEvent → ShownEvent
owned_event e = record {
  id = e.type_id.0;
  name = e.schema.now.name;
  time = e.timestamp_ns;
  values = views e.values.now;
  entry = e.schema.now;
  pools = record { strings = e.string_pool.now; stacks = e.stack_pool.now };
}
