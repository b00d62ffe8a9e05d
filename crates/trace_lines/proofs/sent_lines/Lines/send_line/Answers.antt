use Rattle.std.proofs.Common.{refl, string_bytes}
use Rattle.trace_lines.proofs.SentParts.{failed_in_held, failed_in_line}
use Rattle.trace_lines.proofs.sent_lines.Lines.send_line.Goals as goal

pub returns-in-Err : goal.returns-in-Err
returns-in-Err g c =
    let s = c.args.self.now in record {
      same_writer = refl;
      bytes = failed_in_held c.in-Err.field-0.accepted (string_bytes s.held) (string_bytes s.line)
          (rw c.as_bytes.ensures.value at c.in-Err.ensures.fault);
    }

pub returns-in-Err-send_all : goal.returns-in-Err-send_all
returns-in-Err-send_all g c =
    let s = c.args.self.now in record {
      same_writer = refl;
      bytes = failed_in_line c.in-Err-send_all.field-0.accepted (string_bytes s.held) (string_bytes s.line)
          (rw c.as_bytes.ensures.value at c.in-Ok.ensures.all)
          (rw c.as_bytes-2.ensures.value at c.in-Err-send_all.ensures.fault);
    }
