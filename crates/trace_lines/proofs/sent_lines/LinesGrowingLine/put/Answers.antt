use Rattle.std.proofs.Common.{refl, string_bytes}
use Rattle.std.proofs.lemmas.Result.{err_from_is_err_and}
use Rattle.trace_lines.proofs.SentParts.{part_refused}
use Rattle.trace_lines.proofs.sent_lines.LinesGrowingLine.put.Goals as goal

pub returns-in_err-push_to : goal.returns-in_err-push_to
returns-in_err-push_to g c =
    let p = err_from_is_err_and c.from_residual.result c.from_residual.ensures.1 in
    let s = c.args.self.now in
    rw (p.1, p.2) (record {
      same_writer = refl;
      bytes = part_refused (g.W.TraceWrite.told s.out.now) (string_bytes s.held) (string_bytes s.line)
          (g.P.LinePart.text c.args.part);
    })
