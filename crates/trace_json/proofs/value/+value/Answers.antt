use Rattle.std.proofs.Common.{refl, [], map as list_map, arith}
use Rattle.std.proofs.lemmas.Result.{err_from_is_err_and}
use Rattle.trace_values.proofs.ValueSizes.{falls_3, steps_3}
use Rattle.trace_events.proofs.Depths.{item_in, key_in, value_in, most_below, most_pair_below}
use Rattle.json.specs.Tree.{json_tokens}
use Rattle.trace_values.specs.Reading.{values_to_items, values_to_pairs}
use Rattle.dial9_trace_format.specs.parts.Resolving.{as_pools}
use Rattle.trace_json.specs.EventJson.{AreItemsJson, ArePairsJson, IsValueJson}
use Rattle.trace_json.proofs.Grown.{all_grown, item_grown, list_closed, none_grown, pair_grown, pairs_grown}
use Rattle.trace_json.proofs.value.+value.Goals as goal

pub put_list-returns-in_err-put_mark : goal.put_list-returns-in_err-put_mark
put_list-returns-in_err-put_mark g t c =
    let p = err_from_is_err_and c.from_residual.result c.from_residual.ensures.1 in
    rw (p.1, p.2) c.in_err-put_mark.ensures

pub put_list-returns-in_err-put_items : goal.put_list-returns-in_err-put_items
put_list-returns-in_err-put_items g t c =
    let given = c.from_residual-in_err-put_items in
    let p = err_from_is_err_and given.result given.ensures.1 in
    rw (p.1, p.2) (g.met.L.GrowingJson.carries _ _ _ _ _ c.in_ok-put_mark.ensures c.in_err-put_items.ensures)

pub put_list-returns : goal.put_list-returns
put_list-returns g t c =
    list_closed g.met.L.GrowingJson.joins g.met.L.GrowingJson.carries
    (AreItemsJson (as_pools c.args.strings.now c.args.stacks.now)
    (values_to_items (list_map g.V.TraceValue.value c.args.items.now)))
    c.put_mark-2.new.self c.put_mark-2.result c.in_ok-put_mark.ensures c.in_ok-put_items.ensures c.put_mark-2.ensures

pub put_map-returns-in_err-put_mark : goal.put_map-returns-in_err-put_mark
put_map-returns-in_err-put_mark g t c =
    let p = err_from_is_err_and c.from_residual.result c.from_residual.ensures.1 in
    rw (p.1, p.2) c.in_err-put_mark.ensures

pub put_map-returns-in_err-put_pairs : goal.put_map-returns-in_err-put_pairs
put_map-returns-in_err-put_pairs g t c =
    let given = c.from_residual-in_err-put_pairs in
    let p = err_from_is_err_and given.result given.ensures.1 in
    rw (p.1, p.2) (g.met.L.GrowingJson.carries _ _ _ _ _ c.in_ok-put_mark.ensures c.in_err-put_pairs.ensures)

pub put_map-returns : goal.put_map-returns
put_map-returns g t c =
    let value = g.V.TraceValue.value in
    list_closed g.met.L.GrowingJson.joins g.met.L.GrowingJson.carries
    (ArePairsJson (as_pools c.args.strings.now c.args.stacks.now)
    (values_to_pairs (list_map (λ p. (value p.0, value p.1)) c.args.pairs.now)))
    c.put_mark-2.new.self c.put_mark-2.result c.in_ok-put_mark.ensures c.in_ok-put_pairs.ensures c.put_mark-2.ensures

pub put_items-items-init : goal.put_items-items-init
put_items-items-init g t c =
    none_grown json_tokens (AreItemsJson (as_pools c.args.strings.now c.args.stacks.now) (values_to_items []))
    c.args.out.now refl (g.met.L.GrowingJson.empty c.args.out.now)

pub put_items-items-preserved : goal.put_items-items-preserved
put_items-items-preserved g t c =
    item_grown g.met.L.GrowingJson.joins (as_pools c.args.strings.now c.args.stacks.now) g.V.TraceValue.value
    c.args.items.now c.items.item-index c.items-test.true c.item-item.is c.items.invariant c.in_ok-put_value.ensures

pub put_items-returns-in_err-put_value : goal.put_items-returns-in_err-put_value
put_items-returns-in_err-put_value g t c =
    let p = err_from_is_err_and c.from_residual.result c.from_residual.ensures.1 in
    rw (p.1, p.2) (g.met.L.GrowingJson.carries _ _ _ _ _ c.items.invariant.grown c.in_err-put_value.ensures)

pub put_items-returns : goal.put_items-returns
put_items-returns g t c =
    all_grown json_tokens (λ vs. AreItemsJson (as_pools c.args.strings.now c.args.stacks.now) (values_to_items vs))
    g.V.TraceValue.value c.args.items.now c.items.item-index c.items-test.false c.items.invariant

pub put_pairs-pairs-init : goal.put_pairs-pairs-init
put_pairs-pairs-init g t c =
    none_grown json_tokens (ArePairsJson (as_pools c.args.strings.now c.args.stacks.now) (values_to_pairs []))
    c.args.out.now refl (g.met.L.GrowingJson.empty c.args.out.now)

pub put_pairs-pairs-preserved : goal.put_pairs-pairs-preserved
put_pairs-pairs-preserved g t c =
    let p = as_pools c.args.strings.now c.args.stacks.now in
    let x = c.pair-item.result in
    let value = g.V.TraceValue.value in
    pairs_grown g.met.L.GrowingJson.joins p (λ y. (value y.0, value y.1)) c.args.pairs.now c.pairs.pair-index
    c.pairs-test.true c.pair-item.is c.pairs.invariant
    (pair_grown g.met.L.GrowingJson.joins (IsValueJson p (value x.0)) (IsValueJson p (value x.1)) c.in-Ok-tri.ensures
    c.in-Ok-tri-2.ensures c.in-Ok-tri-3.ensures c.in-Ok-tri-4.ensures)

pub put_pairs-returns-in-pairs : goal.put_pairs-returns-in-pairs
put_pairs-returns-in-pairs g t c =
    g.met.L.GrowingJson.carries _ _ _ _ _ c.pairs.invariant.grown c.in-Err-tri.ensures

pub put_pairs-returns-in-pairs-2 : goal.put_pairs-returns-in-pairs-2
put_pairs-returns-in-pairs-2 g t c =
    let carries = g.met.L.GrowingJson.carries in
    carries _ _ _ _ _ c.pairs.invariant.grown (carries _ _ _ _ _ c.in-Ok-tri.ensures c.in-Err-tri-2.ensures)

pub put_pairs-returns-in-pairs-3 : goal.put_pairs-returns-in-pairs-3
put_pairs-returns-in-pairs-3 g t c =
    let carries = g.met.L.GrowingJson.carries in
    carries _ _ _ _ _ c.pairs.invariant.grown
    (carries _ _ _ _ _ c.in-Ok-tri.ensures (carries _ _ _ _ _ c.in-Ok-tri-2.ensures.grown c.in-Err-tri-3.ensures))

pub put_pairs-returns-in-pairs-4 : goal.put_pairs-returns-in-pairs-4
put_pairs-returns-in-pairs-4 g t c =
    let carries = g.met.L.GrowingJson.carries in
    carries _ _ _ _ _ c.pairs.invariant.grown
    (carries _ _ _ _ _ c.in-Ok-tri.ensures
    (carries _ _ _ _ _ c.in-Ok-tri-2.ensures.grown
    (carries _ _ _ _ _ c.in-Ok-tri-3.ensures.grown c.in-Err-tri-4.ensures)))

pub put_pairs-returns : goal.put_pairs-returns
put_pairs-returns g t c =
    let value = g.V.TraceValue.value in
    all_grown json_tokens (λ ps. ArePairsJson (as_pools c.args.strings.now c.args.stacks.now) (values_to_pairs ps))
    (λ p. (value p.0, value p.1)) c.args.pairs.now c.pairs.pair-index c.pairs-test.false c.pairs.invariant

-- ---- what is gone into next is less deep

pub put_value-put_list-requires : goal.put_value-put_list-requires
put_value-put_list-requires g t c κs within = (
  falls_3 _ _ 0 2 t c.decreases (most_below g.V.TraceValue.depth c.in-Items.items.now _ c.in-Items.ensures.1)
      (omega arith),
  within,
)

pub put_value-put_map-requires : goal.put_value-put_map-requires
put_value-put_map-requires g t c κs within = (
  falls_3 _ _ 0 2 t c.decreases
      (most_pair_below g.V.TraceValue.depth c.in-Pairs.pairs.now _ (c.in-Pairs.ensures.1, c.in-Pairs.ensures.2))
      (omega arith),
  within,
)

pub put_items-put_value-requires : goal.put_items-put_value-requires
put_items-put_value-requires g t c κs within = (
  steps_3 _ _ 1 0 t c.decreases
      (item_in g.V.TraceValue.depth c.args.items.now c.items.item-index _ c.items-test.true c.item-item.is)
      (omega arith),
  within,
)

pub put_pairs-put_value-requires : goal.put_pairs-put_value-requires
put_pairs-put_value-requires g t c κs within = (
  steps_3 _ _ 1 0 t c.decreases
      (key_in g.V.TraceValue.depth c.args.pairs.now c.pairs.pair-index _ c.pairs-test.true c.pair-item.is)
      (omega arith),
  within,
)

pub put_pairs-put_value-requires-in-pairs : goal.put_pairs-put_value-requires-in-pairs
put_pairs-put_value-requires-in-pairs g t c κs within = (
  steps_3 _ _ 1 0 t c.decreases
      (value_in g.V.TraceValue.depth c.args.pairs.now c.pairs.pair-index _ c.pairs-test.true c.pair-item.is)
      (omega arith),
  within,
)
