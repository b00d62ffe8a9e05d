use Rattle.std.proofs.Common.{ap, arith, take}
use Rattle.std.proofs.lemmas.Grind.{common_steps}
use Rattle.trace_samples.specs.Telling.{Teller}
use Rattle.trace_samples.proofs.WaitingBytes.{more_wait}
use Rattle.trace_samples.proofs.told.ToldTraceWrite.send.Goals as goal

pub returns-clause-holds : goal.returns-clause-holds
returns-clause-holds c =
    more_wait c.self.inside.handed c.self.inside.length c.self.inside.buffer _
    (take c.min-count.result c.args.piece.now) c.args.self.now.waiting (grind (arith, common_steps))
    (ap (λ (t : Teller). t.waiting) c.self.view_is) c.self.invariant.0 (omega arith)
