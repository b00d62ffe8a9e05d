-- What a sink that counts events ends with.
use Rattle.std.proofs.Common.{◌≡◌, Option, Some, None, Result, Ok, Err, refl}
use Rattle.std.specs.Prelude.{OnOk, IfSome}
use Rattle.dial9_trace_format.specs.Words.{DecoderState, RunsSink, RunsAfter, SinkCounts, events_of}
use Rattle.dial9_trace_format.specs.declared.failure.Failure.{Failure}
use Rattle.dial9_trace_format.specs.declared.decoder.error.TryForEachError.{TryForEachError}
use Rattle.user_words.specs.declared.tally.Tally.{Tally}
use Rattle.user_words.specs.declared.tally.Full.{Full}
use Rattle.user_words.specs.Tallies.{tallies, TalliesAll}

counted :
    SinkCounts tallies → (old new : DecoderState) (s t : Tally) (r : Result (Unit {0}) (TryForEachError Full)) →
    RunsSink tallies old new s t r → OnOk r (TalliesAll old new s t)
counted counts old new s t (Ok u) h =
    record {
      frames = h.0;
      goes = h.1.goes;
      ended = h.2;
      counted = counts (λ (x : Tally). x.count) (λ a e b k. k) (events_of old.grammar old.pools h.0) s t h.1.steps;
    }
counted counts old new s t (Err e) h = tt

-- a tally of events ends with their number
pub tally_counts :
    SinkCounts tallies →
    (old new : DecoderState) (s t : Tally) (r : Result (Unit {0}) (TryForEachError Full)) (f : Option Failure) →
    (f ≡ None → RunsSink tallies old new s t r) → IfSome f (λ x. RunsAfter x old new s t r) →
    OnOk r (TalliesAll old new s t)
tally_counts counts old new s t r None h k = counted counts old new s t r (h refl)
tally_counts counts old new s t (Ok u) (Some x) h k = absurd cc
tally_counts counts old new s t (Err e) (Some x) h k = tt
