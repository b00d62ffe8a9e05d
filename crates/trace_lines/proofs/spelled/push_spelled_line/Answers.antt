use Rattle.std.proofs.Common.{codes}
use Rattle.std.proofs.lemmas.Result.{err_from_is_err_and}
use Rattle.trace_values.specs.Reading.{fields_at}
use Rattle.trace_values.specs.Values.{owned_reader}
use Rattle.trace_wire.specs.Schemas.{types_of}
use Rattle.trace_lines.specs.Lines.{event_line}
use Rattle.trace_lines.proofs.SpelledParts.{fields_are_read, was_not_put, was_put}
use Rattle.trace_lines.proofs.spelled.push_spelled_line.Goals as goal

pub returns-in_err-put : goal.returns-in_err-put
unfolding event_line
returns-in_err-put g c vs spelled =
    let p = err_from_is_err_and c.from_residual.result c.from_residual.ensures.1 in
    let stops = g.met.L.GrowingLine.stops in
    rw (p.1, p.2) (stops _ _ _ (codes "\n") _ (stops _ _ _ _ _ c.in_err-put.ensures))

pub returns-in_err-push_fields_at : goal.returns-in_err-push_fields_at
unfolding event_line
returns-in_err-push_fields_at g c vs spelled =
    let given = c.from_residual-in_err-push_fields_at in
    let p = err_from_is_err_and given.result given.ensures.1 in
    let types = types_of c.args.fields.now in
    rw (p.1, p.2) (g.met.L.GrowingLine.stops _ _ _ (codes "\n") _
    (g.met.L.GrowingLine.joins _ _ _ _ _ _ c.in_ok-put.ensures
    (was_not_put (fields_at owned_reader types c.args.bytes.now) _ c.in_err-push_fields_at.ensures
    (fields_are_read types c.args.bytes.now vs spelled))))

pub returns : goal.returns
unfolding event_line
returns g c vs spelled =
    let types = types_of c.args.fields.now in
    let joins = g.met.L.GrowingLine.joins in
    joins _ _ _ _ (codes "\n") _ (joins _ _ _ _ _ _ c.in_ok-put.ensures
    (was_put (fields_at owned_reader types c.args.bytes.now) _ c.in_ok-push_fields_at.ensures
    (fields_are_read types c.args.bytes.now vs spelled)).0) c.put-2.ensures
