use Rattle.trace_values.proofs.RoomsFilled.{RoomTold}
use Rattle.trace_values.proofs.types.texts_room.room_of_texts.Given as goal

-- the room is that of the pairs so far, which all fit
abbrev pub invariant-loop-pair : goal.invariant-loop-pair
invariant-loop-pair g l = RoomTold g.T.TextPart.bytes l.pairs l.pair-index l.room
