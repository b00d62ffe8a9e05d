use Rattle.std.proofs.Common.{inl, inr, arith}
use Rattle.trace_values.proofs.RoomsFilled.{none_taken, one_told, all_told, not_short, key_long, value_long}
use Rattle.trace_values.proofs.RoomsFilled.{sum_within, room_within}
use Rattle.trace_values.proofs.types.texts_room.room_of_texts.Goals as goal

pub loop-pair-init : goal.loop-pair-init
loop-pair-init g c = none_taken g.T.TextPart.bytes c.args.pairs.now

pub returns-in_default : goal.returns-in_default
returns-in_default g c =
    inl (not_short g.T.TextPart.bytes c.args.pairs.now c.loop-pair.pair-index c.loop-pair-test.true c.pair-item.is
    (key_long g.T.TextPart.bytes _ c.bytes.ensures c.in_default.ensures))

pub returns-in_default-room_of_text : goal.returns-in_default-room_of_text
returns-in_default-room_of_text g c =
    inl (not_short g.T.TextPart.bytes c.args.pairs.now c.loop-pair.pair-index c.loop-pair-test.true c.pair-item.is
    (value_long g.T.TextPart.bytes _ c.bytes-in-loop-pair.ensures c.in_default-room_of_text.ensures))

pub overflow_add-key : goal.overflow_add-key
overflow_add-key g c =
    omega (
      arith,
      sum_within c.bytes.result.now c.bytes-in-loop-pair.result.now c.in-Some.ensures
          c.in-Some-room_of_text.ensures,
    )

pub returns-in_default-checked_add : goal.returns-in_default-checked_add
returns-in_default-checked_add g c =
    inr (omega (
      arith,
      c.in_default-checked_add.ensures,
      room_within g.T.TextPart.bytes c.args.pairs.now c.loop-pair.pair-index c.loop-pair-test.true c.pair-item.is
          c.bytes.ensures c.bytes-in-loop-pair.ensures c.in-Some.ensures c.in-Some-room_of_text.ensures
          c.loop-pair.invariant,
    ))

pub loop-pair-preserved : goal.loop-pair-preserved
loop-pair-preserved g c =
    one_told g.T.TextPart.bytes c.args.pairs.now c.loop-pair.pair-index (c.loop-pair-test.true, c.pair-item.is)
    c.bytes.ensures c.bytes-in-loop-pair.ensures c.in-Some.ensures c.in-Some-room_of_text.ensures
    (omega (arith, c.in-Some-checked_add.ensures)) c.loop-pair.invariant

pub returns : goal.returns
returns g c = all_told g.T.TextPart.bytes c.args.pairs.now c.loop-pair.pair-index c.loop-pair-test.false
    c.loop-pair.invariant
