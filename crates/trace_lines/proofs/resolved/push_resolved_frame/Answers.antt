use Rattle.std.proofs.Common.{ap, string_bytes}
use Rattle.trace_wire.specs.Registries.{Registry}
use Rattle.dial9_trace_format.specs.DecodedFrames.{item_of}
use Rattle.trace_events.specs.OwnedEvents.{owned_event}
use Rattle.trace_lines.proofs.FrameLines.{frame_line}
use Rattle.trace_lines.proofs.resolved.push_resolved_frame.Goals as goal

pub returns : goal.returns
returns c =
    let e = c.in-Some.event in
    frame_line c.args.decoder.now.state (item_of c.args.frame.now) (owned_event e) c.push_event_in_full.result
    (string_bytes c.args.out.now) (string_bytes c.push_event_in_full.new.out) (
      ap (λ (r : Registry). r.wire_types) c.registry-registry.ensures,
      c.string_pool-strings.ensures,
      c.stack_pool-stacks.ensures,
    )
    c.in-Some.ensures.event c.owned_line_event.ensures c.push_event_in_full.ensures
