-- The numbers that calls answer.
use Rattle.std.specs.Prelude.{ℕ}
use Rattle.trace_values.specs.declared.leb128.error.EncodeError.{EncodeError}
use Rattle.trace_values.specs.declared.leb128.error.EncodeError.TheVariants as errors
use Rattle.dial9_trace_format.specs.declared.decoder.error.DecodeErrorKind.{DecodeErrorKind}
use Rattle.dial9_trace_format.specs.declared.decoder.error.DecodeErrorKind.TheVariants as kinds
use Rattle.trace_batch.specs.declared.batch_error.BatchCause.{BatchCause}
use Rattle.trace_batch.specs.declared.batch_error.BatchCause.TheVariants as causes
use Rattle.trace_batch.specs.declared.read_error.ReadError.{ReadError}
use Rattle.trace_batch.specs.declared.read_error.ReadError.TheVariants as read_errors
use Rattle.trace_door.specs.declared.codes.TraceReport.{TraceReport}

-- all was done; the room is too short; want of memory
abbrev pub done_code : ℕ
done_code = 0

abbrev pub short_code : ℕ
short_code = 1

abbrev pub memory_code : ℕ
memory_code = 2

-- the number of an encoder's error
abbrev pub encode_code : EncodeError → ℕ
encode_code errors.Conflict = 32
encode_code errors.ValueCount = 33
encode_code (errors.Misfit field) = 34
encode_code errors.TooLong = 35
encode_code errors.IdsUsedUp = 36
encode_code errors.SlotTaken = 37
encode_code errors.SlotUntimed = 38
encode_code errors.ByteCount = 39
encode_code errors.OutOfMemory = memory_code
encode_code (errors.Writer kind) = memory_code
encode_code errors.Failed = 40

-- the number of a cause why a batch is refused, and the field of which it speaks
abbrev pub cause_code : BatchCause → ℕ
cause_code causes.NoRecord = 16
cause_code causes.UnknownSchema = 17
cause_code (causes.Refused error) = encode_code error
cause_code causes.OutOfMemory = memory_code

abbrev pub cause_field : BatchCause → ℕ
cause_field (causes.Refused (errors.Misfit field)) = field
cause_field cause = 0

-- the number of a cause why nothing is read
abbrev pub read_code : ReadError → ℕ
read_code read_errors.NoHeader = 58
read_code read_errors.NoState = 60
read_code read_errors.TooLong = 35
read_code read_errors.OutOfMemory = memory_code

-- the number of a cause why a trace ends, and the wire id or byte of which it speaks
abbrev pub stop_code : DecodeErrorKind → ℕ
stop_code kinds.TruncatedEvent = 48
stop_code (kinds.UnknownTypeId id) = 49
stop_code kinds.TruncatedDelta = 50
stop_code kinds.TimestampOverflow = 51
stop_code kinds.TruncatedPrefix = 52
stop_code kinds.TruncatedOptional = 53
stop_code kinds.TruncatedValue = 54
stop_code kinds.TruncatedReset = 55
stop_code (kinds.NoFrame byte) = 56
stop_code (kinds.Conflict id) = 57
stop_code kinds.OutOfMemory = memory_code
stop_code kinds.NoHeader = 58
stop_code kinds.InputTooLong = 59

abbrev pub stop_detail : DecodeErrorKind → ℕ
stop_detail (kinds.UnknownTypeId id) = id.0
stop_detail (kinds.Conflict id) = id.0
stop_detail (kinds.NoFrame byte) = byte
stop_detail kind = 0

-- a report that says nothing
abbrev pub empty_report : TraceReport
empty_report = record { length = 0; state = 0; read = 0; place = 0; detail = 0; events = 0; version = 0 }
