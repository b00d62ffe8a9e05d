-- What each call of the door does.
use Rattle.std.specs.Prelude.{◌≡◌, ◌⊎◌, ℕ, Bool, List, ◌++◌, length, take, Option, Some, None}
use Rattle.dial9_trace_format.specs.Decoding.{StartsWith, IsHeadless}
use Rattle.trace_lines.specs.Dumps.{IsDump}
use Rattle.trace_fronts.specs.Fronts.{IsWholeFront}
use Rattle.trace_fronts.specs.declared.whole.Readers.TheVariants.{Both}
use Rattle.trace_fronts.specs.declared.whole.Stop.{Stop}
use Rattle.trace_fronts.specs.declared.whole.Front.{Front}
use Rattle.trace_batch.specs.Recording.{IsTraceOfBatch, RefusesBatch}
use Rattle.trace_batch.specs.ReadBatches.{ReadsBatch, RefusesToRead}
use Rattle.trace_batch.specs.declared.batch_error.BatchError.{BatchError}
use Rattle.trace_batch.specs.declared.read.ReadBatch.{ReadBatch}
use Rattle.trace_batch.specs.declared.read_error.ReadError.{ReadError}
use Rattle.trace_door.specs.Codes.{done_code, memory_code, cause_code, cause_field, read_code, stop_code}
use Rattle.trace_door.specs.Codes.{stop_detail, empty_report}
use Rattle.trace_door.specs.Filling.{Fills}
use Rattle.trace_door.specs.Counting.{CountsEvents}
use Rattle.trace_door.specs.declared.codes.TraceReport.{TraceReport}

-- the trace of the batch went into the room, or is too long for it
pub record Records (batch old new : List ℕ) (report : TraceReport) (code : ℕ) : Type 0 where
  pub trace : List ℕ
  pub is : IsTraceOfBatch batch trace
  pub fills : Fills trace old new report.length done_code code
  pub beside : report ≡ record empty_report { length = report.length }

-- the batch was refused, and the room is as it was
pub record RefusesToRecord (batch old new : List ℕ) (report : TraceReport) (code : ℕ) : Type 0 where
  pub error : BatchError
  pub refused : RefusesBatch batch error
  pub same : new ≡ old
  pub code_is : code ≡ cause_code error.cause
  pub told : report ≡ record empty_report { place = error.index; detail = cause_field error.cause }

-- one of both
abbrev pub RecordsInto : List ℕ → List ℕ → List ℕ → TraceReport → ℕ → Type 0
RecordsInto batch old new report code = Records batch old new report code
    ⊎ RefusesToRecord batch old new report code

-- why a front ends, as a number with what it speaks of, and where; nothing where it does not
abbrev pub TellsStop : Option Stop → TraceReport → ℕ → Type 0
TellsStop None report code = (code ≡ done_code) × (report.place ≡ 0) × (report.detail ≡ 0)
TellsStop (Some stop) report code = (code ≡ stop_code stop.cause) × (report.place ≡ stop.place)
    × (report.detail ≡ stop_detail stop.cause)

-- the version of the header; 0 where there is none
abbrev pub TellsVersion : List ℕ → ℕ → Type 0
TellsVersion bytes version = StartsWith bytes version ⊎ (IsHeadless bytes × (version ≡ 0))

-- how far both readers take the bytes to their end, and why no further; and how many events that holds
pub record ChecksFront (bytes : List ℕ) (report : TraceReport) (code : ℕ) : Type 0 where
  pub front : Front
  pub is : IsWholeFront Both bytes front
  pub length_is : report.length ≡ front.length
  pub stop : TellsStop front.stop report code
  pub counted : CountsEvents (take front.length bytes) report.events
  pub version_is : TellsVersion bytes report.version
  pub no_state : report.state ≡ 0
  pub nothing_read : report.read ≡ 0

-- that, or want of memory
abbrev pub Checks : List ℕ → TraceReport → ℕ → Type 0
Checks bytes report code = ChecksFront bytes report code ⊎ ((code ≡ memory_code) × (report ≡ empty_report))

-- the lines of what the bytes hold went into the room, or are too long for it; the report has the status
pub record Dumps (resolve : Bool) (bytes old new : List ℕ) (report : TraceReport) (code : ℕ) : Type 0 where
  pub text : List ℕ
  pub is : IsDump resolve bytes report.detail text
  pub fills : Fills text old new report.length done_code code
  pub beside : report ≡ record empty_report { length = report.length; detail = report.detail }

-- that, or want of memory, and the room is as it was
abbrev pub DumpsInto : Bool → List ℕ → List ℕ → List ℕ → TraceReport → ℕ → Type 0
DumpsInto resolve bytes old new report code = Dumps resolve bytes old new report code
    ⊎ ((code ≡ memory_code) × (new ≡ old) × (report ≡ empty_report))

-- What was read is told: the batch and the state after it went into the room, and the number tells why no more was
-- read; or they are too long for it.
pub record TellsRead (batch : ReadBatch) (old new : List ℕ) (report : TraceReport) (code : ℕ) : Type 0 where
  pub told : ℕ
  pub stop : TellsStop batch.stop report told
  pub bytes : List ℕ
  pub bytes_are : bytes ≡ batch.batch.items ++ batch.state.items
  pub fills : Fills bytes old new (length bytes) told code
  pub length_is : report.length ≡ length batch.batch.items
  pub state_is : report.state ≡ length batch.state.items
  pub read_is : report.read ≡ batch.length
  pub events_are : report.events ≡ batch.events
  pub version_is : report.version ≡ batch.version

-- what comes next in the trace, after what the state says, is told as a batch
pub record TellsBatch (state trace : List ℕ) (most : ℕ) (old new : List ℕ) (report : TraceReport) (code : ℕ)
    : Type 0 where
  pub batch : ReadBatch
  pub is : ReadsBatch state trace most batch
  pub told : TellsRead batch old new report code

-- nothing was read, the room is as it was, and the report says nothing
pub record ReadsNothing (state trace old new : List ℕ) (report : TraceReport) (code : ℕ) : Type 0 where
  pub error : ReadError
  pub refused : RefusesToRead state trace error
  pub code_is : code ≡ read_code error
  pub same : new ≡ old
  pub untold : report ≡ empty_report

-- one of both
abbrev pub ReadsInto : List ℕ → List ℕ → ℕ → List ℕ → List ℕ → TraceReport → ℕ → Type 0
ReadsInto state trace most old new report code = TellsBatch state trace most old new report code
    ⊎ ReadsNothing state trace old new report code
