-- What a sink beside a reader makes of an event, and what its own reader tells in the end.
use Rattle.std.specs.Prelude.{◌≢◌, IsTrue, Option, Some, None, Result, Err}
use Rattle.dial9_trace_format.specs.declared.decoder.error.DecodeError.{DecodeError}
use Rattle.dial9_trace_format.specs.Decoding.{DecoderState}
use Rattle.dial9_trace_format.specs.ShownEvents.{ShownEvent}
use Rattle.reader_agreement.specs.Describing.{IsDescribed}
use Rattle.hostile.specs.declared.changed.beside.Answer.{Answer}
use Rattle.hostile.specs.declared.changed.beside.Answer.TheVariants.{Nothing, Refused, Error}
use Rattle.hostile.specs.declared.changed.beside.Beside.{Beside}
use Rattle.hostile.specs.declared.changed.beside.Refusal.{Refusal}
use Rattle.hostile.specs.declared.changed.beside.Refusal.TheVariants as refusals

-- an event comes with what a reader knows
abbrev pub IsKnownTo : DecoderState → ShownEvent → Type 0
IsKnownTo reader event = IsDescribed reader.grammar.wire_types reader.pools event

-- What is right afterwards was right before, and so was the event, unless it was not compared.
pub record TakesRight (old : Beside) (event : ShownEvent) (answer : Result (Unit {0}) Refusal) (new : Beside)
    : Type 0 where
  pub before : IsTrue new.right → IsTrue old.right
  pub compared : answer ≢ Err refusals.Memory → IsTrue new.right → IsKnownTo new.reader event

-- the error, if it is one
abbrev pub error_told : Answer → Option DecodeError
error_told Nothing = None
error_told Refused = None
error_told (Error e) = Some e
