use Rattle.std.proofs.Common.{◌≡◌, drop}
use Rattle.trace_values.specs.Raw.{texts_front}
use Rattle.trace_values.specs.RawViews.{string_map_view, texts_left}
use Rattle.trace_values.specs.TraceFields.{string_pairs}
use Rattle.reader_agreement.proofs.SideBySide.{LeftAlike}
use Rattle.reader_agreement.proofs.resolved.are_shown.Given as goal

abbrev pub invariant-loop-pair : goal.invariant-loop-pair
invariant-loop-pair l = LeftAlike (string_pairs l.pairs ≡ texts_front (string_map_view l.map))
    (string_pairs (drop l.pair-index l.pairs)) (texts_left l.others)
