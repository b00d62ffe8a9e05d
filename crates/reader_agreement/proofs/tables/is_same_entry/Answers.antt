use Rattle.std.proofs.Common.{◌∙◌, sym}
use Rattle.trace_wire.proofs.SameEntries.{same_entry-Decides}
use Rattle.reader_agreement.proofs.tables.is_same_entry.Goals as goal

pub returns : goal.returns
returns c =
    let decides = same_entry-Decides c.args.entry.now c.args.other.now in
    (λ same. decides.0 (sym c.eq.ensures ∙ same), λ is. c.eq.ensures ∙ decides.1 is)
