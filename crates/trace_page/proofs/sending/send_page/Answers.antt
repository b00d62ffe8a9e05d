use Rattle.std.proofs.Common.{◌++◌}
use Rattle.trace_page.specs.Escaping.{escaped}
use Rattle.trace_page.proofs.EscapedSends.{three_sent}
use Rattle.trace_page.proofs.RefusedPages.{head_refused, data_refused, tail_refused}
use Rattle.trace_page.proofs.sending.send_page.Goals as goal

pub returns-in_err-send_all-clause-refused : goal.returns-in_err-send_all-clause-refused
returns-in_err-send_all-clause-refused g c =
    head_refused (escaped c.args.text.now ++ c.args.tail.now) c.from_residual.result c.from_residual.ensures.1
    c.as_bytes.ensures.value c.in_err-send_all.ensures.front c.in_err-send_all.ensures.fault

pub returns-in_err-send_escaped-clause-refused : goal.returns-in_err-send_escaped-clause-refused
returns-in_err-send_escaped-clause-refused g c =
    data_refused _ _ (escaped c.args.text.now) c.args.tail.now c.from_residual-in_err-send_escaped.result
    c.from_residual-in_err-send_escaped.ensures.1 c.as_bytes.ensures.value c.in_ok-send_all.ensures.all
    c.in_err-send_escaped.ensures.refused

pub returns-in_err-send_all-2-clause-refused : goal.returns-in_err-send_all-2-clause-refused
returns-in_err-send_all-2-clause-refused g c =
    tail_refused (escaped c.args.text.now) c.from_residual-in_err-send_all-2.result
    c.from_residual-in_err-send_all-2.ensures.1 c.as_bytes.ensures.value c.as_bytes-2.ensures.value
    c.in_ok-send_all.ensures.all c.in_ok-send_escaped.ensures.sent c.in_err-send_all-2.ensures.front
    c.in_err-send_all-2.ensures.fault

pub returns-clause-sent : goal.returns-clause-sent
returns-clause-sent g c =
    three_sent (escaped c.args.text.now) c.as_bytes.ensures.value c.as_bytes-2.ensures.value
    c.in_ok-send_all.ensures.all c.in_ok-send_escaped.ensures.sent c.in_ok-send_all-2.ensures.all
