use Rattle.std.proofs.Common.{◌≤◌, length}
use Rattle.trace_recordings.proofs.script.loose.text_pairs.Given as goal

abbrev pub invariant-loop-pairs : goal.invariant-loop-pairs
invariant-loop-pairs l = length l.rest ≤ length l.line

abbrev pub decreases-loop-pairs : goal.decreases-loop-pairs
decreases-loop-pairs l = length l.rest
