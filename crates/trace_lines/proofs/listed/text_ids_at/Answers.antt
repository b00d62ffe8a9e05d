use Rattle.std.proofs.Common.{sym, ◌∙◌}
use Rattle.trace_lines.proofs.TextIds.{ids_listed}
use Rattle.trace_lines.proofs.listed.text_ids_at.Goals as goal

pub returns-then-are_text_ids : goal.returns-then-are_text_ids
returns-then-are_text_ids c =
    let h = c.in-Some.ensures.cases in
    ids_listed c.args.bytes.now c.in-Ok.count c.as_chunks.result.0.now c.in-Ok.ensures h.1 h.2 h.3
    c.as_chunks.ensures.front (sym c.are_text_ids.ensures ∙ c.if-are_text_ids.true)
