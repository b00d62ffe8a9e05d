use Rattle.std.proofs.Common.{◌≡◌, ◌++◌, drop, map as list_map}
use Rattle.trace_values.specs.Raw.{texts_front}
use Rattle.trace_values.specs.ValueViews.{text_pairs_view}
use Rattle.trace_lines.proofs.text_maps.text_pairs.Given as goal

abbrev pub invariant-loop-pair : goal.invariant-loop-pair
invariant-loop-pair l =
    list_map (λ p. (p.0.now, p.1.now)) l.texts.items ++ texts_front (text_pairs_view (drop l.pair-index l.pairs))
    ≡ texts_front (text_pairs_view l.pairs)
