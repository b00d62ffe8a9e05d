use Rattle.std.proofs.Common.{◌≤◌, ◌+◌, ◌*◌, length}
use Rattle.trace_recordings.proofs.script.loose.+loose.Given as goal

abbrev pub decreases-value : goal.decreases-value
decreases-value l = 3 * l.levels + 1

abbrev pub decreases-inside : goal.decreases-inside
decreases-inside l = 3 * l.levels

abbrev pub decreases-items : goal.decreases-items
decreases-items l = 3 * l.levels + 2

abbrev pub decreases-pairs : goal.decreases-pairs
decreases-pairs l = 3 * l.levels + 2

abbrev pub invariant-items-loop-items : goal.invariant-items-loop-items
invariant-items-loop-items l = length l.rest ≤ length l.line

abbrev pub decreases-items-loop-items : goal.decreases-items-loop-items
decreases-items-loop-items l = length l.rest

abbrev pub invariant-pairs-loop-pairs : goal.invariant-pairs-loop-pairs
invariant-pairs-loop-pairs l = length l.rest ≤ length l.line

abbrev pub decreases-pairs-loop-pairs : goal.decreases-pairs-loop-pairs
decreases-pairs-loop-pairs l = length l.rest
