use Rattle.std.proofs.lemmas.Result.{err_from_is_err_and}
use Rattle.trace_values.specs.ValueViews.{view}
use Rattle.trace_lines.proofs.SpelledParts.{puts_refused, value_not_put, value_put}
use Rattle.trace_lines.proofs.spelled.push_plain_at.Goals as goal

pub returns-in_default : goal.returns-in_default
returns-in_default g c = puts_refused _ _ c.refusal.ensures

pub returns-in_err-push_plain_value : goal.returns-in_err-push_plain_value
returns-in_err-push_plain_value g c =
    let p = err_from_is_err_and c.from_residual.result c.from_residual.ensures.1 in
    rw (p.1, p.2) (value_not_put c.args.bytes.now c.args.field_type (view c.in-Ok-Some.value) c.in-Ok-Some.rest.now _
    (rw c.in-Ok-Some.field-0-is at c.in-Ok-Some.ensures.found) c.in_err-push_plain_value.ensures)

pub returns : goal.returns
returns g c =
    value_put c.args.bytes.now c.args.field_type (view c.in-Ok-Some.value) c.in-Ok-Some.rest
    (rw c.in-Ok-Some.field-0-is at c.in-Ok-Some.ensures.found) c.in_ok-push_plain_value.ensures
