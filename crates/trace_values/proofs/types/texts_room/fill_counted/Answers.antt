use Rattle.std.proofs.Common.{arith}
use Rattle.trace_values.proofs.RoomsFilled.{counted_put}
use Rattle.trace_values.proofs.types.texts_room.fill_counted.Goals as goal

pub returns-clause-bytes : goal.returns-clause-bytes
returns-clause-bytes c =
    counted_put c.args.room.now c.fill_count.new.place c.fill.new.place c.args.bytes.now c.args.at
    (omega (arith, c.requires)) c.fill_count.ensures c.fill.ensures
