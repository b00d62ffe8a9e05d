use Rattle.std.proofs.Common.{[], arith, refl, map as list_map, ◌∙◌}
use Rattle.json.specs.Tree.{json_tokens}
use Rattle.trace_values.specs.Reading.{values_to_items, values_to_pairs}
use Rattle.trace_values.proofs.ValueSizes.{falls_3, steps_3}
use Rattle.trace_events.proofs.Depths.{item_in, key_in, value_in, most_below, most_pair_below}
use Rattle.dial9_trace_format.specs.parts.Resolving.{as_pools}
use Rattle.trace_json.proofs.OneMore.{all_stand}
use Rattle.trace_json.proofs.Tokens.{list_stands, nothing_put}
use Rattle.trace_page.specs.Holding.{tables_of}
use Rattle.trace_page.specs.PageValues.{ArePageItems, ArePagePairs}
use Rattle.trace_page.proofs.Chains.{so_on_ok}
use Rattle.trace_page.proofs.Growing.{grows_refl, grows_trans}
use Rattle.trace_page.proofs.MoreStand.{item_stands, pair_stands, tagged, grow_twice}
use Rattle.trace_page.proofs.values.+value.Goals as goal

pub put_list-returns-clause-tokens : goal.put_list-returns-clause-tokens
put_list-returns-clause-tokens g t c =
    list_stands c.end_array.result
    (ArePageItems (tables_of c.put_items.new.names) (as_pools c.args.strings.now c.args.stacks.now)
    (values_to_items (list_map g.V.TraceValue.value c.args.items.now)))
    c.args.out.now.tokens c.begin_array.new.self.tokens c.put_items.new.out.tokens c.end_array.new.self.tokens
    c.in_ok-begin_array.ensures.ok c.in_ok-put_items.ensures.tokens c.end_array.ensures.ok

pub put_list-returns-clause-grown : goal.put_list-returns-clause-grown
put_list-returns-clause-grown g t c = so_on_ok c.end_array.result c.in_ok-put_items.ensures.grown

pub put_map-returns-clause-tokens : goal.put_map-returns-clause-tokens
put_map-returns-clause-tokens g t c =
    let value = g.V.TraceValue.value in
    list_stands c.end_array.result
    (ArePagePairs (tables_of c.put_pairs.new.names) (as_pools c.args.strings.now c.args.stacks.now)
    (values_to_pairs (list_map (λ p. (value p.0, value p.1)) c.args.pairs.now)))
    c.args.out.now.tokens c.begin_array.new.self.tokens c.put_pairs.new.out.tokens c.end_array.new.self.tokens
    c.in_ok-begin_array.ensures.ok c.in_ok-put_pairs.ensures.tokens c.end_array.ensures.ok

pub put_map-returns-clause-grown : goal.put_map-returns-clause-grown
put_map-returns-clause-grown g t c = so_on_ok c.end_array.result c.in_ok-put_pairs.ensures.grown

pub put_items-items-init : goal.put_items-items-init
put_items-items-init g t c = record {
  tokens = record { all = []; are_so = refl; tokens = nothing_put c.args.out.now.tokens };
  grown = grows_refl (tables_of c.args.names.now);
  before = refl;
}

pub put_items-items-preserved : goal.put_items-items-preserved
put_items-items-preserved g t c =
    let p = as_pools c.args.strings.now c.args.stacks.now in
    let value = g.V.TraceValue.value in
    record {
      tokens = item_stands c.in_ok-put_value.ensures.grown p value c.args.items.now c.items.item-index _
          (record { inside = c.items-test.true; is = c.item-item.is }) c.items.invariant.tokens
          (tagged _ p (value c.item-item.result) _ _ c.kind_tag.result c.kind_tag.ensures c.in_ok-u64.ensures.ok
          c.in_ok-put_value.ensures.tokens);
      grown = grows_trans _ _ _ c.items.invariant.grown c.in_ok-put_value.ensures.grown;
      before = c.in_ok-put_value.ensures.before ∙ c.in_ok-u64.ensures.room.0 ∙ c.items.invariant.before;
    }

pub put_items-returns-clause-tokens : goal.put_items-returns-clause-tokens
put_items-returns-clause-tokens g t c =
    all_stand json_tokens
    (λ vs. ArePageItems (tables_of c.items.names) (as_pools c.args.strings.now c.args.stacks.now) (values_to_items vs))
    g.V.TraceValue.value c.args.items.now c.items.item-index _ _ c.items-test.false c.items.invariant.tokens

pub put_pairs-pairs-init : goal.put_pairs-pairs-init
put_pairs-pairs-init g t c = record {
  tokens = record { all = []; are_so = refl; tokens = nothing_put c.args.out.now.tokens };
  grown = grows_refl (tables_of c.args.names.now);
  before = refl;
}

pub put_pairs-pairs-preserved : goal.put_pairs-pairs-preserved
put_pairs-pairs-preserved g t c =
    let p = as_pools c.args.strings.now c.args.stacks.now in
    let value = g.V.TraceValue.value in
    let x = c.pair-item.result in
    let key = c.in-Ok-tri-2.ensures in
    let other = c.in-Ok-tri-4.ensures in
    record {
      tokens = pair_stands (grow_twice key.grown other.grown) p (λ y. (value y.0, value y.1)) c.args.pairs.now
          c.pairs.pair-index (record { inside = c.pairs-test.true; is = c.pair-item.is }) c.pairs.invariant.tokens
          (tagged _ p (value x.0) _ _ c.kind_tag.result c.kind_tag.ensures c.in-Ok-tri.ensures.ok key.tokens)
          (tagged _ p (value x.1) _ _ c.kind_tag-in-pairs.result c.kind_tag-in-pairs.ensures c.in-Ok-tri-3.ensures.ok
          other.tokens);
      grown = grows_trans _ _ _ c.pairs.invariant.grown (grows_trans _ _ _ key.grown other.grown);
      before = other.before ∙ c.in-Ok-tri-3.ensures.room.0 ∙ key.before ∙ c.in-Ok-tri.ensures.room.0
          ∙ c.pairs.invariant.before;
    }

pub put_pairs-returns-clause-tokens : goal.put_pairs-returns-clause-tokens
put_pairs-returns-clause-tokens g t c =
    let value = g.V.TraceValue.value in
    all_stand json_tokens
    (λ ps. ArePagePairs (tables_of c.pairs.names) (as_pools c.args.strings.now c.args.stacks.now) (values_to_pairs ps))
    (λ p. (value p.0, value p.1)) c.args.pairs.now c.pairs.pair-index _ _ c.pairs-test.false c.pairs.invariant.tokens

-- what is gone into next is less deep

pub put_value-put_list-requires : goal.put_value-put_list-requires
put_value-put_list-requires g t c κs within = (
  falls_3 _ _ 0 2 t c.decreases (most_below g.V.TraceValue.depth c.in-Items.items.now _ c.in-Items.ensures.1)
      (omega arith),
  within,
)

pub put_value-put_map-requires : goal.put_value-put_map-requires
put_value-put_map-requires g t c κs within = (
  falls_3 _ _ 0 2 t c.decreases
      (most_pair_below g.V.TraceValue.depth c.in-Pairs.pairs.now _ (c.in-Pairs.ensures.1, c.in-Pairs.ensures.2))
      (omega arith),
  within,
)

pub put_items-put_value-requires : goal.put_items-put_value-requires
put_items-put_value-requires g t c κs within = (
  steps_3 _ _ 1 0 t c.decreases
      (item_in g.V.TraceValue.depth c.args.items.now c.items.item-index _ c.items-test.true c.item-item.is)
      (omega arith),
  within,
)

pub put_pairs-put_value-requires : goal.put_pairs-put_value-requires
put_pairs-put_value-requires g t c κs within = (
  steps_3 _ _ 1 0 t c.decreases
      (key_in g.V.TraceValue.depth c.args.pairs.now c.pairs.pair-index _ c.pairs-test.true c.pair-item.is)
      (omega arith),
  within,
)

pub put_pairs-put_value-requires-in-pairs : goal.put_pairs-put_value-requires-in-pairs
put_pairs-put_value-requires-in-pairs g t c κs within = (
  steps_3 _ _ 1 0 t c.decreases
      (value_in g.V.TraceValue.depth c.args.pairs.now c.pairs.pair-index _ c.pairs-test.true c.pair-item.is)
      (omega arith),
  within,
)
