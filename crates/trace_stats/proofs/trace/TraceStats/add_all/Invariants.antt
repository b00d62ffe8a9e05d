use Rattle.std.proofs.Common.{length}
use Rattle.dial9_trace_format.specs.Decoding.{rest_of}
use Rattle.trace_stats.proofs.EventsOfRun.{CountsSoFar}
use Rattle.trace_stats.proofs.trace.TraceStats.add_all.Given as goal

abbrev pub invariant-frames : goal.invariant-frames
invariant-frames l = record {
  counted : CountsSoFar l.initial.decoder.failure l.initial.decoder l.decoder l.initial.self l.self;
}

abbrev pub decreases-frames : goal.decreases-frames
decreases-frames l = length (rest_of l.decoder)
