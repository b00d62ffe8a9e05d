use Rattle.std.proofs.lemmas.Result.{err_from_is_err_and}
use Rattle.trace_lines.proofs.SpelledParts.{puts_refused, puts_same, read_not_put, read_put, text_pair_read}
use Rattle.trace_lines.proofs.spelled.push_text_pair_at.Goals as goal

pub returns-in_default : goal.returns-in_default
returns-in_default g c = puts_refused _ _ c.refusal.ensures

pub returns-in_err-put_on : goal.returns-in_err-put_on
returns-in_err-put_on g c =
    let p = err_from_is_err_and c.from_residual.result c.from_residual.ensures.1 in
    rw (p.1, p.2) (puts_same (text_pair_read c.args.bytes.now _ _ _ _ c.in-Ok.ensures c.in-Ok-counted_at.ensures)
    (read_not_put _ _ _ c.in_err-put_on.ensures))

pub returns : goal.returns
returns g c =
    puts_same (text_pair_read c.args.bytes.now _ _ _ _ c.in-Ok.ensures c.in-Ok-counted_at.ensures)
    (read_put _ _ c.in_ok-put_on.ensures)
