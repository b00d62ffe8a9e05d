use Rattle.std.proofs.Common.{◌≡◌, drop, map as list_map}
use Rattle.dial9_trace_format.specs.ShownEvents.{names_of}
use Rattle.dial9_trace_format.specs.parts.Resolving.{as_pools}
use Rattle.dial9_trace_format.specs.Resolving.{field_unresolved, unresolved_of}
use Rattle.trace_lines.specs.parts.EventLines.{event_as}
use Rattle.trace_lines.proofs.resolved.fields_known.Given as goal

abbrev pub invariant-loop-value : goal.invariant-loop-value
invariant-loop-value g l =
    let see = g.V.FieldLine.value in
    field_unresolved (as_pools l.event.strings.now l.event.stacks.now) (names_of l.names)
    (list_map see (drop l.value-index l.event.values.now))
    ≡ unresolved_of (event_as see l.event)
