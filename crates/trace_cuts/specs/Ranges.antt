-- Which events a range of times has.
use Rattle.std.specs.Prelude.{ℕ, Bool, true, false, ◌&&◌, nat_le}
use Rattle.trace_wire.specs.Frames.{Frame, Event, Reset}
use Rattle.trace_wire.specs.Runs.{Item, EventItem}
use Rattle.dial9_trace_format.specs.ShownEvents.{ShownEvent}
use Rattle.trace_cuts.specs.declared.range.TimeRange.{TimeRange}

-- from the first to the last, both included
abbrev pub is_within : TimeRange → ℕ → Bool
is_within r time = nat_le r.from time && nat_le time r.to

-- an item that stays: an event in the range, or no event
abbrev pub stays : TimeRange → Item → Bool
stays r (EventItem id time values) = is_within r time
stays r shown = true

-- a frame that is copied as it stands: an event in the range, or a frame that is no event and no reset
abbrev pub is_copied : TimeRange → Frame → Bool
is_copied r (Event id time values) = is_within r time
is_copied r (Reset time) = false
is_copied r f = true

abbrev pub is_no_reset : Frame → Bool
is_no_reset (Reset time) = false
is_no_reset f = true

-- an event in the range
abbrev pub is_event_within : TimeRange → ShownEvent → Bool
is_event_within r e = is_within r e.time
