use Rattle.std.proofs.Common.{◌≡◌, drop}
use Rattle.trace_values.specs.Equal.{same_items, same_pairs}
use Rattle.trace_values.specs.Reading.{values_to_items, values_to_pairs}
use Rattle.trace_values.specs.Refs.{ref_views, ref_pair_views}
use Rattle.dial9_trace_format.specs.Resolving.{items_in_full, pairs_in_full}
use Rattle.dial9_trace_format.specs.parts.Resolving.{as_pools}
use Rattle.dial9_trace_format.specs.parts.ResolvedViews.{resolved_views, resolved_pair_views}
use Rattle.reader_agreement.proofs.resolved.+is_in_full.Given as goal

-- what is left is the same exactly where the whole is
abbrev pub invariant-are_in_full-loop-i : goal.invariant-are_in_full-loop-i
invariant-are_in_full-loop-i l =
    same_items (values_to_items (resolved_views (drop l.i l.others)))
    (items_in_full (as_pools l.texts l.stacks) (values_to_items (ref_views (drop l.i l.items))))
    ≡ same_items (values_to_items (resolved_views l.others))
    (items_in_full (as_pools l.texts l.stacks) (values_to_items (ref_views l.items)))

abbrev pub invariant-are_pairs_in_full-loop-i : goal.invariant-are_pairs_in_full-loop-i
invariant-are_pairs_in_full-loop-i l =
    same_pairs (values_to_pairs (resolved_pair_views (drop l.i l.others)))
    (pairs_in_full (as_pools l.texts l.stacks) (values_to_pairs (ref_pair_views (drop l.i l.pairs))))
    ≡ same_pairs (values_to_pairs (resolved_pair_views l.others))
    (pairs_in_full (as_pools l.texts l.stacks) (values_to_pairs (ref_pair_views l.pairs)))
