use Rattle.std.proofs.Common.{◌≡◌, ◌+◌, ◌*◌, drop}
use denote.Param.Weighed.{most}
use Rattle.dial9_trace_format.specs.parts.Resolving.{as_pools}
use Rattle.dial9_trace_format.proofs.ValuesResolved.{unknown_of_items, unknown_of_pairs}
use Rattle.trace_lines.proofs.Depths.{pair_depth}
use Rattle.trace_lines.proofs.value.+knowing.Given as goal

abbrev pub decreases-ids_known : goal.decreases-ids_known
decreases-ids_known g l = 2 * g.V.LineValue.depth l.value.now + 0

abbrev pub decreases-item_ids_known : goal.decreases-item_ids_known
decreases-item_ids_known g l = 2 * most g.V.LineValue.depth l.items.now + 1

abbrev pub decreases-pair_ids_known : goal.decreases-pair_ids_known
decreases-pair_ids_known g l = 2 * most (pair_depth g.V.LineValue.depth) l.pairs.now + 1

abbrev pub invariant-item_ids_known-loop-item : goal.invariant-item_ids_known-loop-item
invariant-item_ids_known-loop-item g l =
    let p = as_pools l.strings l.stacks in
    unknown_of_items g.V.LineValue.value p (drop l.item-index l.items)
    ≡ unknown_of_items g.V.LineValue.value p l.items

abbrev pub invariant-pair_ids_known-loop-pair : goal.invariant-pair_ids_known-loop-pair
invariant-pair_ids_known-loop-pair g l =
    let p = as_pools l.strings l.stacks in
    unknown_of_pairs g.V.LineValue.value p (drop l.pair-index l.pairs)
    ≡ unknown_of_pairs g.V.LineValue.value p l.pairs
