use Rattle.std.proofs.Common.{take}
use Rattle.std.specs.List.{AllByRecursion}
use Rattle.trace_recordings.specs.Refusals.{IsHad}
use Rattle.trace_recordings.proofs.player.admit.Given as goal

abbrev pub invariant-loop-before : goal.invariant-loop-before
invariant-loop-before l = AllByRecursion IsHad (take l.before l.script)
