use Rattle.std.proofs.Common.{take}
use Rattle.std.specs.List.{AllByRecursion}
use Rattle.trace_recordings.specs.Pieces.{AreGivenAlike, piece_sizes}
use Rattle.trace_recordings.proofs.pieces.first_apart.Given as goal

abbrev pub invariant-loop-size : goal.invariant-loop-size
invariant-loop-size l = AllByRecursion (AreGivenAlike l.trace) (take l.size-index piece_sizes)
