use Rattle.trace_page.proofs.Shallow.{page_reads_back}
use Rattle.trace_page.proofs.laws.page_reads_back.Goals as goal

pub returns : goal.returns
returns c = page_reads_back
