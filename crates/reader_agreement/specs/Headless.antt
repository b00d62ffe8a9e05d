-- What a decoder answers that is fed bytes without a header in front.
use Rattle.std.specs.Prelude.{◌≡◌, ◌<◌, ◌≤◌, ℕ, None, Result, Ok, Err}
use Rattle.dial9_trace_format.specs.declared.decoder.error.DecodeError.{DecodeError}
use Rattle.dial9_trace_format.specs.declared.decoder.error.DecodeErrorKind.TheVariants as kinds
use Rattle.reader_agreement.specs.declared.readings.Unread.{Unread}

-- Up to this many bytes: no frame is given where a header may still come, which has five bytes; else it is told that
-- there is none.
abbrev pub GivesNothing : ℕ → Result ℕ DecodeError → Type 0
GivesNothing length (Ok frames) = (frames ≡ 0) × (length < 5)
GivesNothing length (Err error) = (error.kind ≡ kinds.NoHeader) × (5 ≤ length)

-- nothing is given of the first piece, nor of both, and the decoder stands at the front and knows no version
pub record GaveNone (first whole : ℕ) (unread : Unread) : Type 0 where
  pub before : GivesNothing first unread.first
  pub after : GivesNothing whole unread.second
  pub place : unread.position ≡ 0
  pub version : unread.version ≡ None
