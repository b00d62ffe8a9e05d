use Rattle.std.proofs.Common.{◌≡◌, drop, map}
use Rattle.std.specs.Cmp.Lexicographic.{pointwise}
use Rattle.dial9_trace_format.specs.DecodedFrames.{item_of, ref_item_of}
use Rattle.reader_agreement.specs.ReadAlike.{read_alike}
use Rattle.reader_agreement.proofs.frames.are_read_alike.Given as goal

abbrev pub invariant-loop-i : goal.invariant-loop-i
invariant-loop-i l = pointwise read_alike (map item_of (drop l.i l.owned)) (map ref_item_of (drop l.i l.borrowed))
    ≡ pointwise read_alike (map item_of l.owned) (map ref_item_of l.borrowed)
