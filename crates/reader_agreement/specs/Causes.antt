-- Which cause may be told where no frame stands, as far as the bytes alone show it.
use Rattle.std.specs.Prelude.{◌≡◌, ◌≤◌, ◌-◌, ℕ, Bool, true, false, ◌&&◌, ◌||◌, not, nat_le, nat_lt, ◌==◌, List, length}
use Rattle.std.specs.Prelude.{Option, Some, None, slice_get}
use Rattle.trace_wire.specs.FrameTags.{event_tag, reset_tag}
use Rattle.dial9_trace_format.specs.EventCauses.{delta_place}
use Rattle.dial9_trace_format.specs.declared.decoder.error.DecodeError.{DecodeError}
use Rattle.dial9_trace_format.specs.declared.decoder.error.DecodeErrorKind.{DecodeErrorKind}
use Rattle.dial9_trace_format.specs.declared.decoder.error.DecodeErrorKind.TheVariants as kinds

-- Bytes of this length begin with this tag, and the cause lies so far in. A wire id has two bytes after the tag, a
-- delta three after these, and a reset eight after its tag.
abbrev pub may_be_cause : ℕ → ℕ → ℕ → DecodeErrorKind → Bool
may_be_cause tag len ahead kinds.TruncatedEvent = tag == event_tag && (ahead == 0 && nat_lt len delta_place)
may_be_cause tag len ahead (kinds.UnknownTypeId id) = tag == event_tag && (ahead == 0 && nat_le delta_place len)
may_be_cause tag len ahead kinds.TruncatedDelta = tag == event_tag && (ahead == delta_place && nat_lt len 6)
may_be_cause tag len ahead kinds.TimestampOverflow = tag == event_tag && (ahead == delta_place && nat_le 6 len)
may_be_cause tag len ahead kinds.TruncatedPrefix = tag == event_tag && ahead == len
may_be_cause tag len ahead kinds.TruncatedOptional = tag == event_tag && (nat_lt delta_place ahead && nat_le ahead len)
may_be_cause tag len ahead kinds.TruncatedValue = tag == event_tag && (nat_le delta_place ahead && nat_le ahead len)
may_be_cause tag len ahead kinds.TruncatedReset = tag == reset_tag && (ahead == 0 && nat_lt len 9)
may_be_cause tag len ahead (kinds.NoFrame first) =
    tag == first && (ahead == 0 && not (tag == event_tag || tag == reset_tag))
may_be_cause tag len ahead (kinds.Conflict id) = false
may_be_cause tag len ahead kinds.OutOfMemory = false
may_be_cause tag len ahead kinds.NoHeader = false
may_be_cause tag len ahead kinds.InputTooLong = false

-- at this place stands a byte by which this may be the cause
abbrev pub MayBeCause : List ℕ → ℕ → DecodeError → Type 0
MayBeCause bytes place told = (tag : ℕ) × (slice_get bytes place ≡ Some tag) × (place ≤ told.pos)
    × (may_be_cause tag (length bytes - place) (told.pos - place) told.kind ≡ true)

-- What a sink's reader told where a reader of frames stopped at this place, by an error or not: that error; or nothing
-- at the end of the bytes; or what may be the cause why no frame stands there.
abbrev pub IsToldFor : List ℕ → ℕ → Option DecodeError → Option DecodeError → Type 0
IsToldFor bytes place (Some told) (Some error) = told ≡ error
IsToldFor bytes place (Some told) None = MayBeCause bytes place told
IsToldFor bytes place None (Some error) = ⊥
IsToldFor bytes place None None = place ≡ length bytes
