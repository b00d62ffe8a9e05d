use Rattle.std.proofs.Common.{◌∙◌, sym}
use Rattle.std.proofs.lemmas.Result.{err_from_is_err_and}
use Rattle.trace_values.specs.Values.{absent}
use Rattle.trace_lines.proofs.SpelledParts.{field_absent, field_plain, field_present, puts_refused, puts_same}
use Rattle.trace_lines.proofs.SpelledParts.{read_not_put, read_put}
use Rattle.trace_lines.proofs.spelled.push_field_at.Goals as goal

pub returns-then-not-is_optional : goal.returns-then-not-is_optional
returns-then-not-is_optional g c =
    puts_same (field_plain c.args.field_type c.args.bytes.now
    (sym c.is_optional.ensures.optional ∙ c.if-not-is_optional.true)) c.push_value_at.ensures

pub returns-in_default : goal.returns-in_default
returns-in_default g c = puts_refused _ _ c.refusal.ensures

pub returns-in_err-put : goal.returns-in_err-put
returns-in_err-put g c =
    let p = err_from_is_err_and c.from_residual.result c.from_residual.ensures.1 in
    rw (p.1, p.2) (puts_same (field_absent c.args.field_type c.args.bytes.now _ _
    (sym c.is_optional.ensures.optional ∙ c.if-not-is_optional.false) c.in-Ok.ensures c.if-present-eq0.true)
    (read_not_put absent _ _ c.in_err-put.ensures))

pub returns-then-present-eq0 : goal.returns-then-present-eq0
returns-then-present-eq0 g c =
    puts_same (field_absent c.args.field_type c.args.bytes.now _ _
    (sym c.is_optional.ensures.optional ∙ c.if-not-is_optional.false) c.in-Ok.ensures c.if-present-eq0.true)
    (read_put absent _ c.in_ok-put.ensures)

pub returns : goal.returns
returns g c =
    puts_same (field_present c.args.field_type c.args.bytes.now _ _
    (sym c.is_optional.ensures.optional ∙ c.if-not-is_optional.false) c.in-Ok.ensures c.if-present-eq0.false)
    c.push_value_at-2.ensures
