use Rattle.user_words.proofs.CountedEvents.{tally_counts}
use Rattle.user_words.proofs.tally.tally_all.Goals as goal

pub returns-clause-all : goal.returns-clause-all
returns-clause-all c =
    let r = c.try_for_each_event in
    tally_counts c.sinks.ensures.counts c.args.decoder.now r.new.self c.args.tally.now r.new.sink r.result
    c.args.decoder.now.failure r.ensures.runs r.ensures.again
