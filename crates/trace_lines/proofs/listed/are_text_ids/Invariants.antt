use Rattle.std.proofs.Common.{◌≡◌, take}
use Rattle.std.specs.List.{list_all}
use Rattle.trace_lines.specs.parts.Listed.{is_text_id}
use Rattle.trace_lines.proofs.listed.are_text_ids.Given as goal

abbrev pub invariant-loop-item : goal.invariant-loop-item
invariant-loop-item l = l.all ≡ list_all is_text_id (take l.item-index l.items)
