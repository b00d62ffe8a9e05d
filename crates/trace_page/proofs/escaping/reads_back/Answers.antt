use Rattle.trace_page.proofs.EscapedText.{escaped_document}
use Rattle.trace_page.proofs.escaping.reads_back.Goals as goal

pub returns : goal.returns
returns c = escaped_document
