use Rattle.trace_chrome.proofs.WholeSent.{text_is_sent}
use Rattle.trace_chrome.proofs.laws.text_is_sent.Goals as goal

pub returns : goal.returns
returns c = text_is_sent
