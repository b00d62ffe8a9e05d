use Rattle.trace_page.proofs.EscapedText.{has_none}
use Rattle.trace_page.proofs.escaping.no_markup.Goals as goal

pub returns : goal.returns
returns c = has_none
