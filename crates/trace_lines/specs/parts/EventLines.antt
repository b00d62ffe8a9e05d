-- For private contracts: events as their lines show them.
use Rattle.std.specs.Prelude.{map as list_map}
use Rattle.trace_values.specs.Values.{Value}
use Rattle.dial9_trace_format.specs.ShownEvents.{ShownEvent}
use Rattle.trace_lines.specs.declared.resolved.LineEvent.{LineEvent}

-- what an event is whose values are seen so
abbrev pub event_as : {V : Type 0} → (V → Value) → LineEvent V → ShownEvent
event_as see e = record {
  id = e.type_id.0;
  name = e.name.now;
  time = e.timestamp_ns;
  values = list_map see e.values.now;
  entry = e.schema.now;
  pools = record { strings = e.strings.now; stacks = e.stacks.now };
}
