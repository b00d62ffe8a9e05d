-- How the reading of an input ended that a decoder was fed.
use Rattle.std.specs.Prelude.{◌≡◌, ◌⊎◌, ℕ, ◌+◌, List, Option, Some, None, Result, Ok, Err, IfSome}
use Rattle.std.specs.declared.io.ErrorKind.{ErrorKind}
use Rattle.trace_values.specs.Values.{borrowed}
use Rattle.trace_wire.specs.Runs.{NoFrame}
use Rattle.dial9_trace_format.specs.Feeding.{FeedState}
use Rattle.dial9_trace_format.specs.FeedCauses.{TellsCause}
use Rattle.dial9_trace_format.specs.declared.decoder.error.DecodeError.{DecodeError}
use Rattle.dial9_trace_format.specs.declared.decoder.error.DecodeErrorKind.{DecodeErrorKind}
use Rattle.trace_fronts.specs.Fronts.{IsWholeFront}
use Rattle.trace_fronts.specs.declared.pieces.Gap.{Gap}
use Rattle.trace_fronts.specs.declared.whole.Front.{Front}
use Rattle.trace_fronts.specs.declared.whole.Readers.{Readers}
use Rattle.gotymbe_plan.specs.declared.ending.Ending.{Ending}
use Rattle.gotymbe_plan.specs.declared.ending.Ending.TheVariants.{Whole, Stopped, OutOfMemory, Unread, Unfinished}
use Rattle.gotymbe_plan.specs.Endings.{IsConflict, IsErrorEnding, IsUnreadEnding, LacksCause, rest_ending, stop_ending}
use Rattle.gotymbe_plan.specs.Gaps.{EndsWithGap, greatest_status}

-- the last bytes make no frame whole: want of memory, the place alone, or the first cause why none stands there
abbrev pub TellsInside : FeedState → Ending → Type 0
TellsInside s ending = (ending ≡ OutOfMemory)
    ⊎ ((TellsCause s None × (ending ≡ Unfinished s.position))
    ⊎ ((error : DecodeError) × TellsCause s (Some error) × IsErrorEnding error.pos error.kind ending))

-- the same of a decoder that has not failed and has no frame to give
abbrev pub IsEndingInside : FeedState → Ending → Type 0
IsEndingInside s ending = s.fault ≡ None → NoFrame borrowed s.grammar s.kept → TellsInside s ending

-- the ending of all bytes, or, where they end inside a frame, what is told of that
abbrev pub IsEndingAs : FeedState → Ending → Ending → Type 0
IsEndingAs s (Unfinished place) ending = IsEndingInside s ending
IsEndingAs s rest ending = ending ≡ rest

-- the ending of an input that a decoder was fed: by the error by which it failed, or by all bytes
pub record IsFedEnding (s : FeedState) (ending : Ending) : Type 0 where
  pub failed : IfSome s.fault (λ error. IsErrorEnding error.pos error.kind ending)
  pub rest : s.fault ≡ None → IsEndingAs s (rest_ending s.version s.position s.fed_len) ending

-- want of memory, or the end of the longest front of bytes that these readers take
abbrev pub IsFrontEnding : Readers → List ℕ → Ending → Type 0
IsFrontEnding readers bytes ending = (ending ≡ OutOfMemory)
    ⊎ ((front : Front) × IsWholeFront readers bytes front × (ending ≡ stop_ending front.stop))

-- it is a stop at a schema that conflicts
abbrev pub IsConflictEnding : Ending → Type 0
IsConflictEnding (Stopped stop) = IsConflict stop.cause
IsConflictEnding ending = ⊥

-- a file ends by its last gap, and has the greatest status of those before it
abbrev pub TellsGaps : List Gap → Ending → ℕ → Type 0
TellsGaps gaps ending status =
    (before : List Gap) × EndsWithGap gaps before ending × (status ≡ greatest_status before)

-- a stop keeps its cause, unless the file can't be read again
abbrev pub KeepsCause : DecodeErrorKind → Ending → Type 0
KeepsCause cause (Stopped stop) = stop.cause ≡ cause
KeepsCause cause (Unread kind) = Unit {0}
KeepsCause cause OutOfMemory = Unit {0}
KeepsCause cause ending = ⊥

-- the same ending; another place may be told of a schema that conflicts
abbrev pub IsPlaced : List ℕ → Ending → Ending → Type 0
IsPlaced name (Stopped stop) placed = (LacksCause (Stopped stop) name → KeepsCause stop.cause placed)
    × (¬ LacksCause (Stopped stop) name → placed ≡ Stopped stop)
IsPlaced name ending placed = placed ≡ ending

-- a decoder took all bytes before the last one of what ends at a place
abbrev pub ComesUpTo : FeedState → ℕ → Type 0
ComesUpTo s place = (s.fault ≡ None) × (s.fed_len + 1 ≡ place)

-- the place where that begins, where it came so far again; else the same place
pub record IsPlaceAgain (s : FeedState) (old place : ℕ) : Type 0 where
  pub whole : ComesUpTo s old → place ≡ s.position
  pub early : ¬ ComesUpTo s old → place ≡ old

-- it is a stop at this place
abbrev pub IsStopAt : ℕ → Ending → Type 0
IsStopAt place (Stopped stop) = stop.place ≡ place
IsStopAt place ending = ⊥

-- where a file was read again and reading ended so, its stop is at this place; else it can't be read again
abbrev pub IsEndingAgain : Result Ending ErrorKind → ℕ → Ending → Type 0
IsEndingAgain (Ok OutOfMemory) place ending = ending ≡ OutOfMemory
IsEndingAgain (Ok (Unread kind)) place ending = ending ≡ Unread kind
IsEndingAgain (Ok other) place ending = IsStopAt place ending
IsEndingAgain (Err kind) place ending = IsUnreadEnding kind ending
