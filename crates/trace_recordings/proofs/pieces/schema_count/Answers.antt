use Rattle.trace_recordings.proofs.FedInPieces.{counts_none}
use Rattle.trace_recordings.proofs.pieces.schema_count.Goals as goal

pub returns : goal.returns
returns c =
    counts_none c.loop.count _ c.loop.iterator' c.in-None.ensures.steps.0 c.loop.invariant.1 c.loop.invariant.0
