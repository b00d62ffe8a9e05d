use Rattle.std.proofs.Common.{arith}
use Rattle.std.proofs.lemmas.Grind.{common_steps}
use Rattle.trace_page.proofs.EscapedSends.{escaped_next}
use Rattle.trace_page.proofs.RefusedPages.{growth_refused, piece_refused}
use Rattle.trace_page.proofs.sending.send_escaped.Goals as goal

pub loop-sent-preserved : goal.loop-sent-preserved
loop-sent-preserved g c = record {
  within = grind (arith, common_steps);
  all = escaped_next c.args.text.now c.loop-sent.sent c.min-count.result c.loop-sent.invariant.all
      c.in_ok-send_all.ensures.all (grind (arith, common_steps));
}

pub returns-in_err-push_escaped-clause-refused : goal.returns-in_err-push_escaped-clause-refused
returns-in_err-push_escaped-clause-refused g c =
    growth_refused c.args.text.now c.loop-sent.sent c.from_residual.result c.from_residual.ensures.1
    c.loop-sent-test.true c.loop-sent.invariant.all

pub returns-in_err-send_all-clause-refused : goal.returns-in_err-send_all-clause-refused
returns-in_err-send_all-clause-refused g c =
    piece_refused c.args.text.now c.loop-sent.sent c.min-count.result c.from_residual-in_err-send_all.result
    c.from_residual-in_err-send_all.ensures.1 c.loop-sent.invariant.all (grind (arith, common_steps))
    c.in_err-send_all.ensures.front c.in_err-send_all.ensures.fault
