use Rattle.std.proofs.Common.{string_bytes}
use Rattle.trace_lines.proofs.SentParts.{held_sent, held_unsent}
use Rattle.trace_lines.proofs.sending.GrowingLines.send_held.Goals as goal

pub returns-in-Ok-clause-sent : goal.returns-in-Ok-clause-sent
returns-in-Ok-clause-sent g c =
    held_sent (string_bytes c.args.self.now.held) (rw c.as_bytes.ensures.value at c.in-Ok.ensures.all)
    c.clear.ensures.bytes

pub returns-in-Err-clause-sent : goal.returns-in-Err-clause-sent
returns-in-Err-clause-sent g c =
    held_unsent c.in-Err.field-0.accepted (string_bytes c.args.self.now.held)
    (rw c.as_bytes.ensures.value at c.in-Err.ensures.fault)
