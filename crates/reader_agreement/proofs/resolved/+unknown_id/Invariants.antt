use Rattle.std.proofs.Common.{◌≡◌, drop}
use Rattle.trace_values.specs.Reading.{values_to_items, values_to_pairs}
use Rattle.trace_values.specs.Refs.{ref_views, ref_pair_views}
use Rattle.dial9_trace_format.specs.Resolving.{unknown_item_ids, unknown_pair_ids}
use Rattle.dial9_trace_format.specs.parts.Resolving.{as_pools}
use Rattle.reader_agreement.proofs.Lookups.{first}
use Rattle.reader_agreement.proofs.resolved.+unknown_id.Given as goal

-- nothing is missing before what is left
abbrev pub invariant-unknown_item_id-loop-item : goal.invariant-unknown_item_id-loop-item
invariant-unknown_item_id-loop-item l =
    first (unknown_item_ids (as_pools l.texts l.stacks) (values_to_items (ref_views (drop l.item-index l.items))))
    ≡ first (unknown_item_ids (as_pools l.texts l.stacks) (values_to_items (ref_views l.items)))

abbrev pub invariant-unknown_pair_id-loop-pair : goal.invariant-unknown_pair_id-loop-pair
invariant-unknown_pair_id-loop-pair l =
    first (unknown_pair_ids (as_pools l.texts l.stacks) (values_to_pairs (ref_pair_views (drop l.pair-index l.pairs))))
    ≡ first (unknown_pair_ids (as_pools l.texts l.stacks) (values_to_pairs (ref_pair_views l.pairs)))
