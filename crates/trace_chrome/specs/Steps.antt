-- What an event makes of what stood before it.
use Rattle.std.specs.Prelude.{◌≡◌, ℕ, List, [], ◌∷◌, ◌++◌, Option, Some, None, max}
use Rattle.std.specs.Option.{unwrap_or}
use Rattle.dial9_trace_format.specs.ShownEvents.{ShownEvent}
use Rattle.trace_json.specs.EventJson.{IsEventJson}
use Rattle.trace_json.specs.Lines.{IsLineOf, line_feed}
use Rattle.trace_folded.specs.Stacks.{first_stack}
use Rattle.trace_chrome.specs.Labels.{what_of, track_name, event_name, end_time}
use Rattle.trace_chrome.specs.Tracks.{Track, track_at, number_of, with_track}
use Rattle.trace_chrome.specs.Slices.{naming, own_by, tracks_by}
use Rattle.trace_chrome.specs.Frames.{Frame, with_stack, number_of_stack}
use Rattle.trace_chrome.specs.Counters.{AreCounts, sums_of}
use Rattle.trace_chrome.specs.Entries.{Told, Entry, entries_text}
use Rattle.trace_chrome.specs.declared.trace.ChromeTrace.{ChromeTrace}

-- ---- the entries of an event

-- the number of the track of an event
abbrev pub track_number : ShownEvent → List Track → ℕ
track_number e ts = number_of (track_name e) ts

-- the entries of an event but for its counters: the name of its track where that is new, and its own
abbrev pub entries_of : Told → ShownEvent → List Track → List Entry
entries_of told e ts =
    naming (track_name e) e.time ts
    ++ own_by (what_of e) (track_number e ts) (track_at (with_track (track_name e) ts) (track_number e ts)) e.time
    (event_name e) told

-- ---- stacks

-- the frames after a stack, where there is one, and the number of the frame of its innermost address
abbrev pub frames_by : Option (List ℕ) → List Frame → List Frame
frames_by (Some stack) fs = with_stack stack fs
frames_by None fs = fs

abbrev pub frame_by : Option (List ℕ) → List Frame → ℕ
frame_by (Some stack) fs = number_of_stack stack fs
frame_by None fs = 0

-- the same for the first stack among the values of an event
abbrev pub frames_after : ShownEvent → List Frame → List Frame
frames_after e fs = frames_by (first_stack e.pools.stacks e.values) fs

-- the number of that frame for the first stack among the values of an event
abbrev pub frame_of : ShownEvent → List Frame → ℕ
frame_of e fs = frame_by (first_stack e.pools.stacks e.values) fs

-- ---- what stands after it

-- the tracks after an event
abbrev pub tracks_after : ShownEvent → List Track → List Track
tracks_after e ts = tracks_by (what_of e) (track_number e ts) (with_track (track_name e) ts)

-- the first time, that of the first event, where this one is a later one
abbrev pub first_by : Option ℕ → ℕ → ℕ
first_by start at = unwrap_or start at

-- An event was taken: its entries were appended, and last those of its counters. Its own tells its JSON, which has a
-- line feed after it in its line.
pub record Takes (e : ShownEvent) (old new : ChromeTrace) (earlier bytes : List ℕ) : Type 0 where
  pub json : List ℕ
  pub json_is : IsLineOf (IsEventJson e) (json ++ line_feed ∷ [])
  pub counts : List Entry
  pub counts_are : AreCounts e (track_number e old.tracks.items) e.time old.sums.items counts
  pub start : new.start ≡ Some (first_by old.start e.time)
  pub last : new.last ≡ max old.last (end_time e)
  pub tracks : new.tracks.items ≡ tracks_after e old.tracks.items
  pub frames : new.frames.all.keys ≡ frames_after e old.frames.all.keys
  pub sums : new.sums.items ≡ sums_of e (track_number e old.tracks.items) old.sums.items
  pub text :
      bytes ≡ earlier ++ entries_text (first_by old.start e.time) (entries_of
      (record { frame = frame_of e old.frames.all.keys; json = json }) e old.tracks.items ++ counts)
