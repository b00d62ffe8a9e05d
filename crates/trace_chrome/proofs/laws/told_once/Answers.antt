use Rattle.trace_chrome.proofs.Telling.{told_once}
use Rattle.trace_chrome.proofs.laws.told_once.Goals as goal

pub returns : goal.returns
returns c = told_once
