use Rattle.std.proofs.Common.{◌≡◌, take}
use Rattle.trace_recordings.proofs.compare.first_difference.Given as goal

abbrev pub invariant-loop-i : goal.invariant-loop-i
invariant-loop-i l = take l.i l.recorded ≡ take l.i l.found
