use Rattle.trace_lines.proofs.SentParts.{put_and_sent}
use Rattle.trace_lines.proofs.sent_lines.LinesGrowingLine.put_on.Goals as goal

pub returns : goal.returns
returns g c =
    put_and_sent g.W.TraceWrite.told _ _ _ (g.P.LinePart.text c.args.part) c.send_line.result c.in_ok-put.ensures
    c.send_line.ensures
