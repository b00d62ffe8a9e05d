use Rattle.std.proofs.Common.{rules}
use Rattle.trace_values.specs.ValueViews.{views}
use Rattle.trace_recordings.proofs.SampleTypes.{of_that}
use Rattle.trace_recordings.specs.Samples.{WritesEvent}
use Rattle.trace_recordings.proofs.typed.write_as.Goals as goal

pub returns : goal.returns
returns g c =
    of_that
    (λ slot entry. WritesEvent slot entry c.args.time (views c.args.values.now) c.args.encoder.now
    c.write.new.self c.done_reply.result)
    c.args.slot c.args.entry.now (g.T.TraceEvent.slot, g.T.TraceEvent.entry) c.requires (search rules)
