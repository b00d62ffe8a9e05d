use Rattle.std.proofs.Common.{length, ◌-◌, ◌≤◌, take, []}
use Rattle.trace_values.specs.Sending.{TookOnly}
use Rattle.trace_page.specs.Escaping.{escaped}
use Rattle.trace_page.proofs.sending.send_escaped.Given as goal

-- the text that was sent so far is accepted, escaped, and no call failed
abbrev pub invariant-loop-sent : goal.invariant-loop-sent
invariant-loop-sent g l = record {
  within : l.sent ≤ length l.text;
  all : TookOnly (g.W.TraceWrite.told l.fn.out) (g.W.TraceWrite.told l.out) (escaped (take l.sent l.text)) [];
}

abbrev pub decreases-loop-sent : goal.decreases-loop-sent
decreases-loop-sent g l = length l.text - l.sent
