use Rattle.trace_door.proofs.CountedEvents.{counter_counts}
use Rattle.trace_door.proofs.counting.count_all.Goals as goal

pub returns : goal.returns
returns c =
    let r = c.try_for_each_event in
    counter_counts c.sinks.ensures.counts c.args.decoder.now r.new.self c.args.counter.now r.new.sink r.result
    c.args.decoder.now.failure r.ensures.runs r.ensures.again
