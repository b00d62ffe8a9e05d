use Rattle.std.proofs.Common.{◌<◌, length}
use Rattle.trace_recordings.proofs.script.loose.addresses.Given as goal

abbrev pub invariant-loop-addresses : goal.invariant-loop-addresses
invariant-loop-addresses l = length l.rest < length l.line

abbrev pub decreases-loop-addresses : goal.decreases-loop-addresses
decreases-loop-addresses l = length l.rest
