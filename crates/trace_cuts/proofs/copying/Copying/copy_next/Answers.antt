use Rattle.trace_cuts.proofs.OneFrameCopied.{none_begins}
use Rattle.trace_cuts.proofs.copying.Copying.copy_next.Goals as goal

pub returns-in-Nothing : goal.returns-in-Nothing
returns-in-Nothing c = none_begins c.args.self.now c.in-Nothing.ensures.nothing c.args.range
