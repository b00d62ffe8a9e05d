-- How the reading of an input ended: the status, and what is told of it.
use Rattle.std.specs.Prelude.{◌≡◌, ◌≢◌, ℕ, ◌==◌, List, ◌++◌, codes, Option, Some, None}
use Rattle.std.specs.Prelude.{if◌then◌else◌}
use Rattle.std.specs.Fmt.{decimal}
use Rattle.std.specs.declared.io.ErrorKind.{ErrorKind}
use Rattle.std.specs.declared.io.ErrorKind.TheVariants as errors
use Rattle.dial9_trace_format.specs.declared.decoder.error.DecodeErrorKind.{DecodeErrorKind}
use Rattle.dial9_trace_format.specs.declared.decoder.error.DecodeErrorKind.TheVariants as causes
use Rattle.trace_lines.specs.Dumps.{whole_status, no_header_status, stopped_status, conflict_status, failed_status}
use Rattle.trace_fronts.specs.declared.whole.Stop.{Stop}
use Rattle.gotymbe_plan.specs.declared.ending.Ending.{Ending}
use Rattle.gotymbe_plan.specs.declared.ending.Ending.TheVariants.{Whole, Stopped, OutOfMemory, Unread, Unwritten}
use Rattle.gotymbe_plan.specs.declared.ending.Ending.TheVariants.{Unfinished, TooMuch, NoClock, Dumped}
use Rattle.gotymbe_plan.specs.Numbers.{IsGrouped}
use Rattle.gotymbe_plan.specs.Names.{told_name}

-- the ending of a front with this stop, or of all bytes
abbrev pub stop_ending : Option Stop → Ending
stop_ending (Some stop) = Stopped stop
stop_ending None = Whole

-- the ending of a decoder that told this kind of error at a place: want of memory, or a stop there
pub record IsErrorEnding (place : ℕ) (kind : DecodeErrorKind) (ending : Ending) : Type 0 where
  pub memory : kind ≡ causes.OutOfMemory → ending ≡ OutOfMemory
  pub stop : kind ≢ causes.OutOfMemory → ending ≡ Stopped (record { place = place; cause = kind })

-- the ending of an input that could not be read by this kind of error: want of memory, or that kind
pub record IsUnreadEnding (kind : ErrorKind) (ending : Ending) : Type 0 where
  pub memory : kind ≡ errors.OutOfMemory → ending ≡ OutOfMemory
  pub unread : kind ≢ errors.OutOfMemory → ending ≡ Unread kind

-- the ending of an input that was read to its end: without a header, after its last frame, or inside one
abbrev pub rest_ending : Option ℕ → ℕ → ℕ → Ending
rest_ending None position fed_len = Stopped (record { place = 0; cause = causes.NoHeader })
rest_ending (Some version) position fed_len = if position == fed_len then Whole else Unfinished position

-- a schema conflicts
abbrev pub IsConflict : DecodeErrorKind → Type 0
IsConflict (causes.Conflict id) = Unit {0}
IsConflict cause = ⊥

-- the place is told without its cause, or that after a schema that conflicts
abbrev pub IsPlaceAlone : Ending → Type 0
IsPlaceAlone (Unfinished place) = Unit {0}
IsPlaceAlone (Dumped status) = Unit {0}
IsPlaceAlone (Stopped stop) = IsConflict stop.cause
IsPlaceAlone ending = ⊥

-- the cause is to be looked for in all bytes; not of standard input, which can't be read again
abbrev pub LacksCause : Ending → List ℕ → Type 0
LacksCause ending name = IsPlaceAlone ending × (name ≢ codes "-")

-- the name of what an ending is told of: what was read, or what could not be written
abbrev pub told_of : Ending → List ℕ → List ℕ → List ℕ
told_of (Unwritten kind) read written = written
told_of ending read written = read

-- the ending of a dump that failed: for the output, for the input, or for want of memory
abbrev pub failed_ending : Option ErrorKind → Option ErrorKind → Ending
failed_ending read (Some kind) = Unwritten kind
failed_ending (Some kind) None = Unread kind
failed_ending None None = OutOfMemory

-- the ending of a dump with this status, where these errors came from the input and from the output
abbrev pub dump_ending : ℕ → Option ErrorKind → Option ErrorKind → Ending
dump_ending status read written =
    if status == whole_status then Whole
    else if status == failed_status then failed_ending read written
    else Dumped status

-- a text is ended: memory was not refused, and writing did not fail
abbrev pub HasTail : Ending → Type 0
HasTail OutOfMemory = ⊥
HasTail (Unwritten kind) = ⊥
HasTail ending = Unit {0}

-- the status of a trace that stops
abbrev pub stop_status : DecodeErrorKind → ℕ
stop_status causes.NoHeader = no_header_status
stop_status (causes.Conflict id) = conflict_status
stop_status cause = stopped_status

-- the status of the program; that of a whole trace where a pipe was closed
abbrev pub HasStatus : Ending → ℕ → Type 0
HasStatus Whole status = status ≡ whole_status
HasStatus (Stopped stop) status = status ≡ stop_status stop.cause
HasStatus OutOfMemory status = status ≡ failed_status
HasStatus (Unread kind) status = status ≡ failed_status
HasStatus (Unwritten kind) status =
    (kind ≡ errors.BrokenPipe → status ≡ whole_status) × (kind ≢ errors.BrokenPipe → status ≡ failed_status)
HasStatus (Unfinished place) status = status ≡ stopped_status
HasStatus TooMuch status = status ≡ failed_status
HasStatus NoClock status = status ≡ failed_status
HasStatus (Dumped dump) status = status ≡ dump

-- why no frame stands there
abbrev pub cause_text : DecodeErrorKind → List ℕ
cause_text causes.TruncatedEvent = codes "truncated event frame"
cause_text (causes.UnknownTypeId id) = codes "unknown wire id " ++ decimal id.0
cause_text causes.TruncatedDelta = codes "truncated timestamp delta"
cause_text causes.TimestampOverflow = codes "timestamp overflow"
cause_text causes.TruncatedPrefix = codes "truncated optional field prefix"
cause_text causes.TruncatedOptional = codes "truncated optional field value"
cause_text causes.TruncatedValue = codes "truncated field value"
cause_text causes.TruncatedReset = codes "truncated timestamp reset"
cause_text (causes.NoFrame tag) = codes "no whole frame with tag " ++ decimal tag
cause_text (causes.Conflict id) = codes "another schema under wire id " ++ decimal id.0
cause_text causes.OutOfMemory = codes "out of memory"
cause_text causes.NoHeader = codes "no trace header"
cause_text causes.InputTooLong = codes "input too long"

-- what stands before a reason: the program and the file
abbrev pub start_text : List ℕ → List ℕ
start_text name = codes "gotymbe: " ++ told_name name ++ codes ": "

-- what is told of an error of the system
abbrev pub error_text : ErrorKind → List ℕ
error_text errors.NotFound = codes "no such file or folder"
error_text errors.PermissionDenied = codes "permission denied"
error_text errors.AlreadyExists = codes "is there already (--force writes all the same)"
error_text errors.IsADirectory = codes "is a folder"
error_text errors.NotADirectory = codes "a part of the name is no folder"
error_text errors.InvalidFilename = codes "the name is too long"
error_text errors.FilesystemLoop = codes "links lead in a circle"
error_text errors.StorageFull = codes "no space left"
error_text errors.ReadOnlyFilesystem = codes "read-only file system"
error_text errors.FileTooLarge = codes "file too large"
error_text errors.WriteZero = codes "nothing more is taken"
error_text errors.OutOfMemory = codes "out of memory"
error_text kind = codes "input or output error"

-- where a trace stops, and why
abbrev pub stop_text : List ℕ → DecodeErrorKind → List ℕ
stop_text place cause = codes "stops at byte " ++ place ++ (codes ": " ++ cause_text cause)

abbrev pub AppendsStop : Stop → List ℕ → List ℕ → Type 0
AppendsStop stop old new = (place : List ℕ) × IsGrouped stop.place place × (new ≡ old ++ stop_text place stop.cause)

-- where the frame begins inside which an input ends
abbrev pub AppendsUnfinished : ℕ → List ℕ → List ℕ → Type 0
AppendsUnfinished place old new = (text : List ℕ) × IsGrouped place text
    × (new ≡ old ++ (codes "ends inside the frame at byte " ++ text))

-- why reading ended
abbrev pub AppendsReason : Ending → List ℕ → List ℕ → Type 0
AppendsReason Whole old new = new ≡ old ++ codes "whole"
AppendsReason (Stopped stop) old new = AppendsStop stop old new
AppendsReason OutOfMemory old new = new ≡ old ++ codes "out of memory"
AppendsReason (Unread kind) old new = new ≡ old ++ (codes "cannot be read: " ++ error_text kind)
AppendsReason (Unwritten kind) old new = new ≡ old ++ (codes "cannot be written: " ++ error_text kind)
AppendsReason (Unfinished place) old new = AppendsUnfinished place old new
AppendsReason TooMuch old new = new ≡ old ++ codes "adds up to more than 64 bits hold"
AppendsReason NoClock old new = new ≡ old ++ codes "has no clock that dates can go by"
AppendsReason (Dumped status) old new = new ≡ old ++ codes "stops where the last line of its dump tells"

-- the line that tells that a file is whole
abbrev pub whole_line : List ℕ → List ℕ
whole_line name = told_name name ++ codes ": whole\n"

-- the line of a file: the program, the file and the reason, and a line feed
abbrev pub AppendsLine : List ℕ → Ending → List ℕ → List ℕ → Type 0
AppendsLine name ending old new = (text : List ℕ) × AppendsReason ending (old ++ start_text name) text
    × (new ≡ text ++ codes "\n")

-- something is told of every ending but two: where reading ended well, and where a pipe was closed
abbrev pub IsTold : Ending → Type 0
IsTold Whole = ⊥
IsTold (Unwritten kind) = kind ≢ errors.BrokenPipe
IsTold ending = Unit {0}
