-- What a sink that counts events ends with.
use Rattle.std.proofs.Common.{◌≡◌, Option, Some, None, Result, Ok, Err, refl}
use Rattle.std.specs.Prelude.{OnOk, IfSome}
use Rattle.dial9_trace_format.specs.Words.{DecoderState, RunsSink, RunsAfter, SinkCounts, events_of}
use Rattle.dial9_trace_format.specs.declared.failure.Failure.{Failure}
use Rattle.dial9_trace_format.specs.declared.decoder.error.TryForEachError.{TryForEachError}
use Rattle.trace_door.specs.declared.counting.Counter.{Counter}
use Rattle.trace_door.specs.declared.counting.Full.{Full}
use Rattle.trace_door.specs.parts.Counting.{counts_one, CountsAll}

counted : SinkCounts counts_one → (old new : DecoderState) (s t : Counter)
    (r : Result (Unit {0}) (TryForEachError Full))
    → RunsSink counts_one old new s t r → OnOk r (CountsAll old new s t)
counted counts old new s t (Ok u) h =
    record {
      frames = h.0;
      goes = h.1.goes;
      ended = h.2;
      counted = counts (λ (x : Counter). x.count) (λ a e b k. k) (events_of old.grammar old.pools h.0) s t h.1.steps;
    }
counted counts old new s t (Err e) h = tt

-- a counter of events ends with their number
pub counter_counts : SinkCounts counts_one → (old new : DecoderState) (s t : Counter)
    (r : Result (Unit {0}) (TryForEachError Full)) (f : Option Failure) →
    (f ≡ None → RunsSink counts_one old new s t r) → IfSome f (λ x. RunsAfter x old new s t r) →
    OnOk r (CountsAll old new s t)
counter_counts counts old new s t r None h k = counted counts old new s t r (h refl)
counter_counts counts old new s t (Ok u) (Some x) h k = absurd cc
counter_counts counts old new s t (Err e) (Some x) h k = tt
