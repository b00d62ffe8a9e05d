use Rattle.std.proofs.Common.{codes}
use Rattle.std.proofs.lemmas.Result.{err_from_is_err_and}
use Rattle.trace_lines.specs.ResolvedLines.{fields_line}
use Rattle.trace_lines.proofs.resolved.push_fields_line.Goals as goal

pub returns-in_err-put : goal.returns-in_err-put
unfolding fields_line
returns-in_err-put g c =
    let p = err_from_is_err_and c.from_residual.result c.from_residual.ensures.1 in
    let stops = g.met.L.GrowingLine.stops in
    rw (p.1, p.2) (stops _ _ _ (codes "\n") _ (stops _ _ _ _ _ c.in_err-put.ensures))

pub returns-in_err-push_fields : goal.returns-in_err-push_fields
unfolding fields_line
returns-in_err-push_fields g c =
    let given = c.from_residual-in_err-push_fields in
    let p = err_from_is_err_and given.result given.ensures.1 in
    let joins = g.met.L.GrowingLine.joins in
    rw (p.1, p.2) (g.met.L.GrowingLine.stops _ _ _ (codes "\n") _
    (joins _ _ _ _ _ _ c.in_ok-put.ensures c.in_err-push_fields.ensures))

pub returns : goal.returns
unfolding fields_line
returns g c =
    let joins = g.met.L.GrowingLine.joins in
    joins _ _ _ _ (codes "\n") _ (joins _ _ _ _ _ _ c.in_ok-put.ensures c.in_ok-push_fields.ensures) c.put-2.ensures
