use Rattle.std.proofs.Common.{◌≡◌, drop}
use Rattle.trace_values.specs.Reading.{values_to_items, values_to_pairs}
use Rattle.trace_values.specs.ValueViews.{views, pair_views}
use Rattle.reader_agreement.specs.Signs.{items_hold_sign, pairs_hold_sign}
use Rattle.reader_agreement.proofs.signs.+holds_sign.Given as goal

-- what is left holds the sign exactly where the whole does
abbrev pub invariant-items_hold_sign-loop-item : goal.invariant-items_hold_sign-loop-item
invariant-items_hold_sign-loop-item l = items_hold_sign (values_to_items (views (drop l.item-index l.items)))
    ≡ items_hold_sign (values_to_items (views l.items))

abbrev pub invariant-pairs_hold_sign-loop-pair : goal.invariant-pairs_hold_sign-loop-pair
invariant-pairs_hold_sign-loop-pair l = pairs_hold_sign (values_to_pairs (pair_views (drop l.pair-index l.pairs)))
    ≡ pairs_hold_sign (values_to_pairs (pair_views l.pairs))
