-- What a sink is given of a trace.
use Rattle.std.specs.Prelude.{◌≡◌, ◌⊎◌, ℕ, ◌-◌, List, ◌++◌, length, drop, codes, decimal}
use Rattle.trace_values.specs.Values.{borrowed}
use Rattle.trace_wire.specs.Schemas.{Shape}
use Rattle.trace_wire.specs.Frames.{Grammar, empty, Frame, Schema, header_length}
use Rattle.trace_wire.specs.Runs.{Begins, Ending, Whole, Stopped, Conflict, IsLongest, no_pools}
use Rattle.dial9_trace_format.specs.Decoding.{StartsWith, IsHeadless}
use Rattle.dial9_trace_format.specs.ShownEvents.{ShownEvent}
use Rattle.dial9_trace_format.specs.Sinks.{events_of}
use Rattle.trace_lines.specs.Lines.{line}
use Rattle.trace_recordings.specs.declared.sink.EventCounter.{EventCounter}
use Rattle.trace_recordings.specs.Tallies.{counted_up}

-- one more event was counted
abbrev pub counts : EventCounter → ShownEvent → EventCounter → Type 0
counts s e t = t.events ≡ counted_up s.events 1

-- the place where the longest run over an input of a size ends before the rest, told by the bytes before it: before
-- the rest, or after the schema that differs from what its wire id stands for
abbrev pub IsPlace : ℕ → Grammar → List ℕ → Ending → ℕ → Type 0
IsPlace size last rest Whole place = place ≡ size - length rest
IsPlace size last rest Stopped place = place ≡ size - length rest
IsPlace size last rest Conflict place =
    (id : ℕ) × (shape : Shape) × (after : List ℕ) × Begins borrowed last rest (Schema id shape) after
    × (place ≡ size - length after)

-- the longest run of borrowed frames after the header has these frames, and ends so, at this place
pub record EndsAt (input : List ℕ) (frames : List Frame) (end : Ending) (place : ℕ) : Type 0 where
  pub rest : List ℕ
  pub last : Grammar
  pub longest : IsLongest borrowed empty (drop header_length input) frames rest end last
  pub place_is : IsPlace (length input) last rest end place

-- three lines: how many events, how that ended, and at which place
abbrev pub sink_text : ℕ → List ℕ → ℕ → List ℕ
sink_text count told place =
    line (codes "events " ++ decimal count) ++ line told ++ line (codes "position " ++ decimal place)

-- The lines of a sink that is shown the events of the longest run of borrowed frames. Where the run is the whole of a
-- stream it ended with `ok`; elsewhere with the text of the reader's error, which is not said here.
pub record IsStreamSink (input : List ℕ) (text : List ℕ) : Type 0 where
  pub version : ℕ
  pub header : StartsWith input version
  pub frames : List Frame
  pub end : Ending
  pub place : ℕ
  pub ends : EndsAt input frames end place
  pub told : List ℕ
  pub whole : end ≡ Whole → told ≡ codes "ok"
  pub text_is : text ≡ sink_text (counted_up 0 (length (events_of empty no_pools frames))) told place

-- the line where no header stands
pub record IsNoSink (input : List ℕ) (text : List ℕ) : Type 0 where
  pub no_header : IsHeadless input
  pub text_is : text ≡ line (codes "no header")

-- what a sink is given of any input
abbrev pub IsSinkText : List ℕ → List ℕ → Type 0
IsSinkText input text = IsNoSink input text ⊎ IsStreamSink input text
