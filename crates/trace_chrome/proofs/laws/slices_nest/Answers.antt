use Rattle.trace_chrome.proofs.Telling.{slices_nest}
use Rattle.trace_chrome.proofs.laws.slices_nest.Goals as goal

pub returns : goal.returns
returns c = slices_nest
