use Rattle.std.proofs.lemmas.Result.{err_from_is_err_and}
use Rattle.trace_lines.specs.ResolvedLines.{entry_text}
use Rattle.trace_lines.proofs.resolved.push_field.Goals as goal

pub returns-in_err-put : goal.returns-in_err-put
unfolding entry_text
returns-in_err-put g c =
    let p = err_from_is_err_and c.from_residual.result c.from_residual.ensures.1 in
    rw (p.1, p.2) (g.met.L.GrowingLine.stops _ _ _ _ _ c.in_err-put.ensures)

pub returns : goal.returns
unfolding entry_text
returns g c = g.met.L.GrowingLine.joins _ _ _ _ _ _ c.in_ok-put.ensures c.put_field.ensures
