use Rattle.std.proofs.lemmas.Result.{err_from_is_err_and}
use Rattle.trace_json.proofs.SentText.{first_unsent, second_sent}
use Rattle.trace_json.proofs.growing.send_both.Goals as goal

pub returns-in_err-send_to : goal.returns-in_err-send_to
returns-in_err-send_to g c =
    let p = err_from_is_err_and c.from_residual.result c.from_residual.ensures.1 in
    rw (p.1, p.2) (first_unsent c.args.first.now c.args.second.now c.in_err-send_to.ensures)

pub returns : goal.returns
returns g c =
    second_sent (g.W.TraceWrite.told c.send_to-2.new.out) c.args.first.now c.args.second.now c.send_to-2.result
    c.in_ok-send_to.ensures c.send_to-2.ensures
