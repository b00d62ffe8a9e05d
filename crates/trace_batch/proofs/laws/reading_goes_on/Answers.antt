use Rattle.trace_batch.proofs.NextReadGoesOn.{reads_go_on}
use Rattle.trace_batch.proofs.laws.reading_goes_on.Goals as goal

pub returns : goal.returns
returns c = reads_go_on
