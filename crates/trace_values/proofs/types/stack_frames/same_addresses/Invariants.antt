use Rattle.std.proofs.Common.{◌≡◌, length}
use Rattle.std.specs.Str.{bytes_eq}
use Rattle.trace_values.proofs.types.stack_frames.same_addresses.Given as goal

-- those that are left are equal exactly where all are
abbrev pub invariant-eights : goal.invariant-eights
invariant-eights l = bytes_eq l.a l.b ≡ bytes_eq l.a_rest l.b_rest

abbrev pub decreases-eights : goal.decreases-eights
decreases-eights l = length l.a_rest
