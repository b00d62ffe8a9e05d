use Rattle.std.proofs.Common.{refl, string_bytes}
use Rattle.trace_lines.proofs.SentParts.{part_refused}
use Rattle.trace_lines.proofs.sent_lines.LinesGrowingLine.refusal.Goals as goal

pub returns : goal.returns
returns g c =
    let s = c.args.self.now in λ text. record {
      same_writer = refl;
      bytes = part_refused (g.W.TraceWrite.told s.out.now) (string_bytes s.held) (string_bytes s.line) text;
    }
