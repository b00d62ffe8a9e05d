use Rattle.std.proofs.Common.{ap, arith}
use Rattle.trace_samples.specs.Telling.{Teller}
use Rattle.trace_samples.proofs.WaitingBytes.{none_waits}
use Rattle.trace_samples.proofs.told.Told.is_settled.Goals as goal

pub returns : goal.returns
returns c =
    none_waits c.self.inside.handed c.self.inside.length c.self.inside.buffer c.args.self.now.waiting
    (ap (λ (t : Teller). t.waiting) c.self.view_is) c.self.invariant.0 (omega arith)
