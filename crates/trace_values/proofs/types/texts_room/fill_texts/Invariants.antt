use Rattle.std.proofs.Common.{length, take}
use Rattle.trace_values.proofs.RoomsFilled.{FilledTo, spelled}
use Rattle.trace_values.proofs.types.texts_room.fill_texts.Given as goal

-- the pairs so far fill the front
abbrev pub invariant-loop-pair : goal.invariant-loop-pair
invariant-loop-pair g l =
    FilledTo l.place (spelled (λ p. (g.T.TextPart.bytes p.0, g.T.TextPart.bytes p.1)) (take l.pair-index l.pairs)) l.at
    (length l.fn.place)
