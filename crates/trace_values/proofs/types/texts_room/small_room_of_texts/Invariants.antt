use Rattle.std.proofs.Common.{◌≡◌, ◌≤◌, length, take}
use Rattle.trace_values.specs.Limits.{greatest_u32}
use Rattle.trace_values.proofs.RoomsFilled.{spelled}
use Rattle.trace_values.proofs.types.texts_room.small_room_of_texts.Given as goal

-- the room is that of the pairs so far, and small
abbrev pub invariant-loop-pair : goal.invariant-loop-pair
invariant-loop-pair g l =
    (l.room ≤ greatest_u32)
    × (l.room ≡ length (spelled (λ p. (g.T.TextPart.bytes p.0, g.T.TextPart.bytes p.1)) (take l.pair-index l.pairs)))
