use Rattle.std.proofs.Common.{length}
use Rattle.trace_recordings.proofs.DigitPairs.{DigitsBefore}
use Rattle.trace_recordings.proofs.script.line.hex_bytes.Given as goal

abbrev pub invariant-pairs : goal.invariant-pairs
invariant-pairs l = DigitsBefore l.bytes.items l.rest l.line

abbrev pub decreases-pairs : goal.decreases-pairs
decreases-pairs l = length l.rest
