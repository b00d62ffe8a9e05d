use Rattle.std.proofs.Common.{◌≡◌, drop}
use Rattle.trace_values.specs.Equal.{same_items, same_pairs}
use Rattle.trace_values.specs.Reading.{values_to_items, values_to_pairs}
use Rattle.trace_values.specs.Refs.{ref_views, ref_pair_views}
use Rattle.trace_values.specs.ValueViews.{views, pair_views}
use Rattle.reader_agreement.proofs.values.+is_value.Given as goal

abbrev pub invariant-are_items-loop-i : goal.invariant-are_items-loop-i
invariant-are_items-loop-i l = same_items (values_to_items (views (drop l.i l.items)))
    (values_to_items (ref_views (drop l.i l.others)))
    ≡ same_items (values_to_items (views l.items)) (values_to_items (ref_views l.others))

abbrev pub invariant-are_pairs-loop-i : goal.invariant-are_pairs-loop-i
invariant-are_pairs-loop-i l = same_pairs (values_to_pairs (pair_views (drop l.i l.pairs)))
    (values_to_pairs (ref_pair_views (drop l.i l.others)))
    ≡ same_pairs (values_to_pairs (pair_views l.pairs)) (values_to_pairs (ref_pair_views l.others))
