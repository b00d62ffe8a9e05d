use Rattle.std.proofs.Common.{◌≡◌}
use Rattle.std.specs.Slice.Iter.{chunks_rest, chunks_size}
use Rattle.trace_recordings.proofs.FedInPieces.{FedSoFar}
use Rattle.trace_recordings.proofs.pieces.given_in_pieces.Given as goal

abbrev pub invariant-loop-piece : goal.invariant-loop-piece
invariant-loop-piece l =
    goal.iterator-loop-piece.can_next l.piece-iterator × goal.iterator-loop-piece.is_finite l.piece-iterator
    × (chunks_size l.piece-iterator ≡ l.size)
    × FedSoFar l.size l.trace l.frames.items (chunks_rest l.piece-iterator) l.decoder.state
