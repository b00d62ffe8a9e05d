use Rattle.std.proofs.Common.{subst}
use Rattle.dial9_trace_format.specs.ShownEvents.{ShownEvent}
use Rattle.trace_lines.specs.parts.SentLines.{HoldsEvent}
use Rattle.trace_lines.proofs.sent_lines.Lines.hold_long.Goals as goal

pub returns : goal.returns
returns g c =
    subst
    (λ (e : ShownEvent). HoldsEvent g.W.TraceWrite.told c.args.self.now e c.hold_after.result c.hold_after.new.self)
    c.long_line_event.ensures c.hold_after.ensures
