use Rattle.std.proofs.Common.{◌≤◌}
use Rattle.trace_recordings.proofs.program.replay_sets.Given as goal

abbrev pub invariant-loop-set : goal.invariant-loop-set
invariant-loop-set g l = l.status ≤ 1
