use Rattle.std.proofs.Common.{refl, arith}
use Rattle.std.proofs.lemmas.Result.{err_from_is_err_and}
use Rattle.trace_values.proofs.ValueSizes.{falls_2, steps_2}
use Rattle.dial9_trace_format.specs.parts.Resolving.{as_pools}
use Rattle.dial9_trace_format.proofs.ValuesResolved.{key_unresolved, value_cause, item_unresolved, item_known}
use Rattle.dial9_trace_format.proofs.ValuesResolved.{items_known, pair_known, pairs_known}
use Rattle.trace_lines.proofs.Depths.{item_in, key_in, value_in, most_below, most_pair_below}
use Rattle.trace_lines.proofs.value.+knowing.Goals as goal

pub item_ids_known-returns-in_err-ids_known : goal.item_ids_known-returns-in_err-ids_known
item_ids_known-returns-in_err-ids_known g t c =
    let p = err_from_is_err_and c.from_residual.result c.from_residual.ensures.1 in
    rw (p.1, p.2) (item_unresolved g.V.LineValue.value _ c.args.items.now c.loop-item.item-index c.loop-item-test.true
    c.item-item.is
    c.loop-item.invariant refl c.in_err-ids_known.ensures)

pub item_ids_known-loop-item-preserved : goal.item_ids_known-loop-item-preserved
item_ids_known-loop-item-preserved g t c =
    item_known g.V.LineValue.value (as_pools c.args.strings.now c.args.stacks.now) c.args.items.now
    c.loop-item.item-index c.item-item.result c.loop-item-test.true c.item-item.is c.loop-item.invariant
    c.in_ok-ids_known.ensures.0

pub item_ids_known-returns : goal.item_ids_known-returns
item_ids_known-returns g t c = (
  items_known g.V.LineValue.value (as_pools c.args.strings.now c.args.stacks.now) c.args.items.now
      c.loop-item.item-index c.loop-item-test.false c.loop-item.invariant,
  tt,
)

pub pair_ids_known-returns-in_err-ids_known : goal.pair_ids_known-returns-in_err-ids_known
pair_ids_known-returns-in_err-ids_known g t c =
    let p = err_from_is_err_and c.from_residual.result c.from_residual.ensures.1 in
    rw (p.1, p.2) (key_unresolved g.V.LineValue.value _ c.args.pairs.now c.loop-pair.pair-index (omega arith)
    c.pair-item.is
    c.loop-pair.invariant refl c.in_err-ids_known.ensures)

pub pair_ids_known-returns-in_err-ids_known-2 : goal.pair_ids_known-returns-in_err-ids_known-2
pair_ids_known-returns-in_err-ids_known-2 g t c =
    let given = c.from_residual-in_err-ids_known-2 in
    let p = err_from_is_err_and given.result given.ensures.1 in
    rw (p.1, p.2) (value_cause g.V.LineValue.value _ c.args.pairs.now c.loop-pair.pair-index (omega arith)
    c.pair-item.is
    c.loop-pair.invariant refl c.in_ok-ids_known.ensures.0 c.in_err-ids_known-2.ensures)

pub pair_ids_known-loop-pair-preserved : goal.pair_ids_known-loop-pair-preserved
pair_ids_known-loop-pair-preserved g t c =
    pair_known g.V.LineValue.value (as_pools c.args.strings.now c.args.stacks.now) c.args.pairs.now
    c.loop-pair.pair-index c.pair-item.result c.loop-pair-test.true c.pair-item.is c.loop-pair.invariant
    (c.in_ok-ids_known.ensures.0, c.in_ok-ids_known-2.ensures.0)

pub pair_ids_known-returns : goal.pair_ids_known-returns
pair_ids_known-returns g t c = (
  pairs_known g.V.LineValue.value (as_pools c.args.strings.now c.args.stacks.now) c.args.pairs.now
      c.loop-pair.pair-index c.loop-pair-test.false c.loop-pair.invariant,
  tt,
)

-- ---- what is gone into next is less deep

pub ids_known-item_ids_known-requires : goal.ids_known-item_ids_known-requires
ids_known-item_ids_known-requires g t c κs within = (
  falls_2 _ _ 0 1 t c.decreases (most_below g.V.LineValue.depth c.in-Items.items.now _ c.in-Items.ensures.1)
      (omega arith),
  within,
)

pub ids_known-pair_ids_known-requires : goal.ids_known-pair_ids_known-requires
ids_known-pair_ids_known-requires g t c κs within = (
  falls_2 _ _ 0 1 t c.decreases
      (most_pair_below g.V.LineValue.depth c.in-Pairs.pairs.now _ (c.in-Pairs.ensures.1, c.in-Pairs.ensures.2))
      (omega arith),
  within,
)

pub item_ids_known-ids_known-requires : goal.item_ids_known-ids_known-requires
item_ids_known-ids_known-requires g t c κs within = (
  steps_2 _ _ 1 0 t c.decreases
      (item_in g.V.LineValue.depth c.args.items.now c.loop-item.item-index c.item-item.result c.loop-item-test.true
      c.item-item.is) (omega arith),
  within,
)

pub pair_ids_known-ids_known-requires : goal.pair_ids_known-ids_known-requires
pair_ids_known-ids_known-requires g t c κs within = (
  steps_2 _ _ 1 0 t c.decreases
      (key_in g.V.LineValue.depth c.args.pairs.now c.loop-pair.pair-index c.pair-item.result c.loop-pair-test.true
      c.pair-item.is) (omega arith),
  within,
)

pub pair_ids_known-ids_known-requires-in-loop-pair : goal.pair_ids_known-ids_known-requires-in-loop-pair
pair_ids_known-ids_known-requires-in-loop-pair g t c κs within = (
  steps_2 _ _ 1 0 t c.decreases
      (value_in g.V.LineValue.depth c.args.pairs.now c.loop-pair.pair-index c.pair-item.result c.loop-pair-test.true
      c.pair-item.is) (omega arith),
  within,
)
