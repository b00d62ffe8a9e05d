use Rattle.trace_chrome.proofs.ReadBack.{sent_reads_back}
use Rattle.trace_chrome.proofs.laws.sent_reads_back.Goals as goal

pub returns : goal.returns
returns c = sent_reads_back
