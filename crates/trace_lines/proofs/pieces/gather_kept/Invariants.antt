use Rattle.std.proofs.Common.{length}
use Rattle.trace_lines.proofs.PiecesHeld.{HeldSoFar}
use Rattle.trace_lines.proofs.pieces.gather_kept.Given as goal

abbrev pub invariant-lines : goal.invariant-lines
invariant-lines g l =
    HeldSoFar g.W.TraceWrite.told l.initial.lines l.lines l.initial.decoder.state l.decoder.state

abbrev pub decreases-lines : goal.decreases-lines
decreases-lines g l = length l.decoder.state.kept
