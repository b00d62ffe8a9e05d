-- Where resets stand in a cut.
use Rattle.std.specs.Prelude.{◌≡◌, ◌≢◌, ℕ, Bool, true, false, not, IsTrue, List, [], ◌∷◌, ◌++◌, filter}
use Rattle.trace_values.specs.Values.{Value}
use Rattle.trace_wire.specs.Frames.{Frame, Header, Event, Reset}
use Rattle.trace_cuts.specs.declared.range.TimeRange.{TimeRange}
use Rattle.trace_cuts.specs.Ranges.{is_within, is_copied, is_no_reset}

-- the base time after a frame: an event and a reset set it to their time, a header to 0
abbrev pub base_by : ℕ → Frame → ℕ
base_by base (Header version) = 0
base_by base (Event id time values) = time
base_by base (Reset time) = time
base_by base f = base

-- the base time after frames, from one on
abbrev pub base_after : ℕ → List Frame → ℕ
base_after base [] = base
base_after base (f ∷ frames) = base_after (base_by base f) frames

-- whether the frame that set the base time was left out, after one frame more: an event outside of the range, or a
-- reset
abbrev pub left_by : TimeRange → Bool → Frame → Bool
left_by r left (Header version) = false
left_by r left (Event id time values) = not (is_within r time)
left_by r left (Reset time) = true
left_by r left f = left

-- the same after all frames
abbrev pub is_left_out : TimeRange → Bool → List Frame → Bool
is_left_out r left [] = left
is_left_out r left (f ∷ frames) = is_left_out r (left_by r left f) frames

-- A reset to this time, between these kept frames, is needed. An event comes next, of which the trace has this base
-- time. The event before it, or the reset, was left out, and without this reset the event had another base time.
pub record NeedsReset (r : TimeRange) (frames before : List Frame) (time : ℕ) (after : List Frame) : Type 0 where
  pub id : ℕ
  pub event_time : ℕ
  pub values : List Value
  pub following : List Frame
  pub next : after ≡ Event id event_time values ∷ following
  pub earlier : List Frame
  pub later : List Frame
  pub stands : frames ≡ earlier ++ Event id event_time values ∷ later
  pub copied : filter is_no_reset before ≡ filter (is_copied r) earlier
  pub base : base_after 0 earlier ≡ time
  pub other : base_after 0 before ≢ time
  pub left_out : IsTrue (is_left_out r false earlier)

-- each reset of a cut is needed
abbrev pub NeedsResets : TimeRange → List Frame → List Frame → Type 0
NeedsResets r frames kept =
    (before after : List Frame) (time : ℕ) → kept ≡ before ++ Reset time ∷ after → NeedsReset r frames before time after
