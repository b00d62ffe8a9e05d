use Rattle.std.proofs.Common.{string_bytes}
use Rattle.trace_lines.proofs.SentParts.{held_goes_on}
use Rattle.trace_lines.proofs.sending.GrowingLines.send_line.Goals as goal

pub returns : goal.returns
returns g c =
    held_goes_on (g.W.TraceWrite.told c.send_held.new.out) (string_bytes c.send_held.new.self.held) c.send_held.result
    c.in_ok-hold_line.ensures c.send_held.ensures.sent
