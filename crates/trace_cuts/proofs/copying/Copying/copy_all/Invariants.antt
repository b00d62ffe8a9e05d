use Rattle.std.proofs.Common.{length}
use Rattle.trace_cuts.proofs.OneFrameCopied.{CopiedFrom}
use Rattle.trace_cuts.proofs.copying.Copying.copy_all.Given as goal

abbrev pub invariant-frames : goal.invariant-frames
invariant-frames l = record { copied : CopiedFrom l.range l.initial.self l.self }

abbrev pub decreases-frames : goal.decreases-frames
decreases-frames l = length l.self.rest.now
