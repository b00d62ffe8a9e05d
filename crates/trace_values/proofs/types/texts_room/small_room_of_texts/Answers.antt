use Rattle.std.proofs.Common.{arith}
use Rattle.trace_values.proofs.SmallRooms.{room_least}
use Rattle.trace_values.proofs.types.texts_room.small_room_of_texts.Goals as goal

pub returns-then-both : goal.returns-then-both
returns-then-both g c =
    omega (
      arith,
      c.if-both.true,
      room_least (λ p. (g.T.TextPart.bytes p.0, g.T.TextPart.bytes p.1)) c.args.pairs.now c.loop-pair.pair-index
          c.loop-pair-test.true c.pair-item.is c.bytes.ensures c.bytes-in-loop-pair.ensures c.loop-pair.invariant.1,
    )

pub returns-then-room : goal.returns-then-room
returns-then-room g c =
    omega (
      arith,
      c.if-room.true,
      room_least (λ p. (g.T.TextPart.bytes p.0, g.T.TextPart.bytes p.1)) c.args.pairs.now c.loop-pair.pair-index
          c.loop-pair-test.true c.pair-item.is c.bytes.ensures c.bytes-in-loop-pair.ensures c.loop-pair.invariant.1,
    )
