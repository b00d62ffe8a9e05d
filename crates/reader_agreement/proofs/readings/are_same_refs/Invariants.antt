use Rattle.std.proofs.Common.{◌≡◌, drop, map}
use Rattle.std.specs.Cmp.Lexicographic.{pointwise}
use Rattle.dial9_trace_format.specs.DecodedFrames.{ref_item_of, same_item}
use Rattle.reader_agreement.proofs.readings.are_same_refs.Given as goal

abbrev pub invariant-loop-i : goal.invariant-loop-i
invariant-loop-i l = pointwise same_item (map ref_item_of (drop l.i l.refs)) (map ref_item_of (drop l.i l.others))
    ≡ pointwise same_item (map ref_item_of l.refs) (map ref_item_of l.others)
