use Rattle.std.proofs.Common.{arith}
use Rattle.dial9_trace_format.proofs.IterationShortens.{refs_apart}
use Rattle.reader_agreement.proofs.events.are_same_refs.Goals as goal

pub returns-then-a-b : goal.returns-then-a-b
returns-then-a-b c = refs_apart c.args.a.now c.args.b.now (λ e. omega (arith, c.if-a-b.true, e))
