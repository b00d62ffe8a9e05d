use Rattle.trace_chrome.proofs.Wholes.{text_reads_back}
use Rattle.trace_chrome.proofs.laws.reads_back.Goals as goal

pub returns : goal.returns
returns c = text_reads_back
