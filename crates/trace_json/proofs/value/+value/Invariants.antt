use Rattle.std.proofs.Common.{◌+◌, ◌*◌, take, map as list_map}
use denote.Param.Weighed.{most}
use Rattle.json.specs.Tree.{json_tokens}
use Rattle.trace_values.specs.Reading.{values_to_items, values_to_pairs}
use Rattle.dial9_trace_format.specs.parts.Resolving.{as_pools}
use Rattle.trace_events.proofs.Depths.{pair_depth}
use Rattle.trace_json.specs.EventJson.{AreItemsJson, ArePairsJson}
use Rattle.trace_json.specs.parts.Growing.{GrowsAll}
use Rattle.trace_json.proofs.value.+value.Given as goal

abbrev pub decreases-put_value : goal.decreases-put_value
decreases-put_value g l = 3 * g.V.TraceValue.depth l.value.now + 0

abbrev pub decreases-put_list : goal.decreases-put_list
decreases-put_list g l = 3 * most g.V.TraceValue.depth l.items.now + 2

abbrev pub decreases-put_map : goal.decreases-put_map
decreases-put_map g l = 3 * most (pair_depth g.V.TraceValue.depth) l.pairs.now + 2

abbrev pub decreases-put_items : goal.decreases-put_items
decreases-put_items g l = 3 * most g.V.TraceValue.depth l.items.now + 1

abbrev pub decreases-put_pairs : goal.decreases-put_pairs
decreases-put_pairs g l = 3 * most (pair_depth g.V.TraceValue.depth) l.pairs.now + 1

abbrev pub invariant-put_items-items : goal.invariant-put_items-items
invariant-put_items-items g l =
    GrowsAll g.L.GrowingJson.grows json_tokens (AreItemsJson (as_pools l.strings l.stacks)
    (values_to_items (list_map g.V.TraceValue.value (take l.item-index l.items)))) l.initial.out l.out

abbrev pub invariant-put_pairs-pairs : goal.invariant-put_pairs-pairs
invariant-put_pairs-pairs g l =
    GrowsAll g.L.GrowingJson.grows json_tokens (ArePairsJson (as_pools l.strings l.stacks)
    (values_to_pairs (list_map (λ p. (g.V.TraceValue.value p.0, g.V.TraceValue.value p.1))
    (take l.pair-index l.pairs)))) l.initial.out l.out
