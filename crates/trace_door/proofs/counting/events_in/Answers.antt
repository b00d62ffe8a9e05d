use Rattle.std.proofs.Common.{inl, arith}
use Rattle.trace_door.proofs.counting.events_in.Goals as goal

pub returns-in-Ok : goal.returns-in-Ok
returns-in-Ok c =
    let all = c.in-Ok.ensures in
    inl
    (record {
      first = c.in-Some.decoder;
      opened = c.in-Some.ensures.found;
      last = c.count_all.new.decoder;
      frames = all.frames;
      goes = all.goes;
      ended = all.ended;
      counted = omega (arith, all.counted);
    })
