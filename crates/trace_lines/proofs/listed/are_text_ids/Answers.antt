use Rattle.trace_lines.proofs.TextIds.{item_tested, items_tested}
use Rattle.trace_lines.proofs.listed.are_text_ids.Goals as goal

pub loop-item-preserved : goal.loop-item-preserved
loop-item-preserved c =
    item_tested c.args.items.now c.loop-item.item-index _ c.loop-item-test.true c.loop-item.invariant
    c.is_text_id-one.ensures

pub returns : goal.returns
returns c = items_tested c.args.items.now c.loop-item.item-index c.loop-item-test.false c.loop-item.invariant
