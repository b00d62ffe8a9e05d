-- How many events bytes hold.
use Rattle.std.specs.Prelude.{◌≡◌, ◌⊎◌, ℕ, List, [], length}
use Rattle.dial9_trace_format.specs.Words.{DecoderState, Goes, rest_of, borrowed, Frame, events_of, IsHeadless}
use Rattle.dial9_trace_format.specs.WrittenTraces.{IsOpened}

-- a decoder of the bytes takes them to their end, as these frames, which have so many events
pub record HasEvents (bytes : List ℕ) (n : ℕ) : Type 0 where
  pub first : DecoderState
  pub opened : IsOpened bytes first
  pub last : DecoderState
  pub frames : List Frame
  pub goes : Goes borrowed first last frames
  pub ended : rest_of last ≡ []
  pub counted : n ≡ length (events_of first.grammar first.pools frames)

-- that, or there is no header, and no event
abbrev pub CountsEvents : List ℕ → ℕ → Type 0
CountsEvents bytes n = HasEvents bytes n ⊎ (IsHeadless bytes × (n ≡ 0))
