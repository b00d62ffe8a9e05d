use Rattle.std.proofs.Common.{length}
use Rattle.trace_recordings.proofs.ScriptLines.{SayFront}
use Rattle.trace_recordings.proofs.script.script_of.Given as goal

abbrev pub invariant-loop-calls : goal.invariant-loop-calls
invariant-loop-calls l = SayFront l.text l.calls.items l.rest

abbrev pub decreases-loop-calls : goal.decreases-loop-calls
decreases-loop-calls l = length l.rest
