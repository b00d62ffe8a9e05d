use Rattle.std.proofs.Common.{ℕ, List, subst}
use Rattle.trace_values.specs.Encoding.{SendFails}
use Rattle.trace_cuts.proofs.cut.send_cut.Goals as goal

pub returns-in-Err-clause-refused : goal.returns-in-Err-clause-refused
returns-in-Err-clause-refused g c = (
  c.in_ok-cut.cut,
  c.in_ok-cut.ensures,
  subst
      (λ (l : List ℕ).
      SendFails (g.W.TraceWrite.told c.args.out.now) (g.W.TraceWrite.told c.send_all.new.writer) l
      c.in-Err.fault.kind)
      c.as_slice.ensures.value
      (c.in-Err.fault.accepted, c.in-Err.ensures.front, c.in-Err.ensures.fault),
)
