use Rattle.trace_lines.proofs.TextIds.{fixed_reads}
use Rattle.trace_lines.proofs.listed.ListedValueFieldForm.push_fixed_at.Goals as goal

pub unreachable-requires : goal.unreachable-requires
unreachable-requires c = fixed_reads c.args.field_type c.args.bytes.now _ c.requires.stands c.in-Err.ensures
