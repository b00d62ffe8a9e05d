use Rattle.std.proofs.Common.{sym, ◌∙◌}
use Rattle.dial9_trace_format.specs.DecodedFrames.{item_of, next_as}
use Rattle.trace_recordings.proofs.FedInPieces.{told_as}
use Rattle.trace_recordings.proofs.pieces.next_conflict.Goals as goal

pub returns : goal.returns
returns c = (
  c.next_frame-answer.new.self,
  next_as item_of c.next_frame-answer.result,
  c.next_frame-answer.ensures.next,
  c.next_frame-answer.ensures.again,
  c.conflict_in.ensures ∙ sym (told_as c.next_frame-answer.result),
)
