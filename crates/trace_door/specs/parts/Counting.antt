-- For private contracts: a sink that counts events.
use Rattle.std.specs.Prelude.{◌≡◌, ◌+◌, ◌-◌, ◌^◌, List, [], length, Result, Ok, Err}
use Rattle.dial9_trace_format.specs.Words.{DecoderState, Goes, rest_of, borrowed, Frame, ShownEvent, events_of}
use Rattle.trace_door.specs.declared.counting.Counter.{Counter}
use Rattle.trace_door.specs.declared.counting.Full.{Full}

-- one more, unless no more can be counted
abbrev pub counts_one : Counter → ShownEvent → Result (Unit {0}) Full → Counter → Type 0
counts_one s e (Ok u) t = t.count ≡ s.count + 1
counts_one s e (Err f) t = (s.count ≡ 2 ^ 64 - 1) × (t ≡ s)

-- the frames to the end were read, and their events counted
pub record CountsAll (old new : DecoderState) (s t : Counter) : Type 0 where
  pub frames : List Frame
  pub goes : Goes borrowed old new frames
  pub ended : rest_of new ≡ []
  pub counted : t.count ≡ s.count + length (events_of old.grammar old.pools frames)
