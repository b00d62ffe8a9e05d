-- What a reader gave so far, and then one answer more.
use Rattle.std.specs.Prelude.{◌+◌, ◌-◌, ◌^◌, min, Bool, true, false, ◌&&◌, Option, Some, None, is_none}
use Rattle.std.specs.Prelude.{Result, Ok, Err}
use Rattle.std.specs.Option.{option_map_or}
use Rattle.trace_wire.specs.Runs.{Item}
use Rattle.dial9_trace_format.specs.DecodedFrames.{same_item}
use Rattle.dial9_trace_format.specs.declared.decoder.error.DecodeError.{DecodeError}
use Rattle.reader_agreement.specs.declared.runs.Run.{Run}

-- whether a frame is the one that is wanted, if one is
abbrev pub is_wanted : Option Item → Item → Bool
is_wanted wanted shown = option_map_or (λ w. same_item w shown) wanted false

-- the answer, with what a test says of a frame in its place
abbrev pub tested : {F : Type 0} → (F → Bool) → Result (Option F) DecodeError → Result (Option Bool) DecodeError
tested test (Ok (Some frame)) = Ok (Some (test frame))
tested test (Ok None) = Ok None
tested test (Err e) = Err e

-- whether the answer is a frame
abbrev pub gives_one : {F : Type 0} → Result (Option F) DecodeError → Bool
gives_one (Ok (Some frame)) = true
gives_one (Ok None) = false
gives_one (Err e) = false

-- what an iterator gave, as the answer of a reader
abbrev pub as_answer : {F : Type 0} → Option (Result F DecodeError) → Result (Option F) DecodeError
as_answer (Some (Ok frame)) = Ok (Some frame)
as_answer (Some (Err e)) = Err e
as_answer None = Ok None

-- The run after an answer: one more was given, up to the greatest number of 64 bits, which is the one that is wanted or
-- not; nothing was; or it ended by an error. After an error nothing is wanted.
abbrev pub run_after : Run → Result (Option Bool) DecodeError → Run
run_after run (Ok (Some same)) = record run {
  given = min (run.given + 1) (2 ^ 64 - 1);
  same = run.same && (same && is_none run.error);
}
run_after run (Ok None) = run
run_after run (Err e) = record run { same = run.same && is_none run.error; error = Some e }
