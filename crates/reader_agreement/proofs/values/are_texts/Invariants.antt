use Rattle.std.proofs.Common.{◌≡◌, ◌-◌, length, drop}
use Rattle.trace_values.specs.Raw.{pairs_in}
use Rattle.trace_values.specs.RawViews.{string_map_view}
use Rattle.trace_values.specs.ValueViews.{text_pairs_view}
use Rattle.reader_agreement.proofs.SideBySide.{LeftAlike}
use Rattle.reader_agreement.proofs.PairsLeft.{AreWhole}
use Rattle.reader_agreement.proofs.values.are_texts.Given as goal

abbrev pub invariant-loop-pair : goal.invariant-loop-pair
invariant-loop-pair l =
    let left = length l.pairs - l.pair-index in
    LeftAlike (text_pairs_view l.pairs ≡ string_map_view l.map) (text_pairs_view (drop l.pair-index l.pairs))
    (pairs_in left l.rest)
    × AreWhole left l.rest
