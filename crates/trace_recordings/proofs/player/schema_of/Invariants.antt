use Rattle.std.proofs.Common.{◌≡◌, map, take}
use Rattle.trace_recordings.specs.Playing.{annotation_of}
use Rattle.trace_recordings.proofs.player.schema_of.Given as goal

abbrev pub invariant-loop-annotation : goal.invariant-loop-annotation
invariant-loop-annotation l = l.annotations.items ≡ map annotation_of (take l.annotation-index l.annotation-items)
