-- What a reader of owned values and one of borrowed values give of one trace.
use Rattle.std.specs.Prelude.{◌≡◌, true, map, take, length, Option, Some, None, slice_get, nat_eq}
use Rattle.std.specs.Cmp.Lexicographic.{pointwise}
use Rattle.std.specs.List.{starts_with}
use Rattle.dial9_trace_format.specs.DecodedFrames.{item_of, ref_item_of}
use Rattle.dial9_trace_format.specs.declared.decoder.decoded_frame.DecodedFrame.{DecodedFrame}
use Rattle.reader_agreement.specs.declared.ends.Ended.{Ended}
use Rattle.reader_agreement.specs.declared.frames.Borrowed.{Borrowed}
use Rattle.reader_agreement.specs.declared.frames.Owned.{Owned}
use Rattle.reader_agreement.specs.ReadAlike.{read_alike}
use Rattle.reader_agreement.specs.Signs.{frame_holds_sign}

-- Where no owned frame is left, both ended alike. Where one is, it is an event with a text in which something was
-- replaced, before which the borrowed frames end without an error.
abbrev pub EndsAlike : Option DecodedFrame → Ended → Ended → Type 0
EndsAlike None owned borrowed = owned ≡ borrowed
EndsAlike (Some next) owned borrowed = (frame_holds_sign (item_of next) ≡ true) × (borrowed.error ≡ None)

-- the borrowed frames are read as a front of the owned ones, at the same places, and end where they may
pub record Agreement (owned : Owned) (borrowed : Borrowed) : Type 0 where
  pub frames : pointwise read_alike (map item_of (take (length borrowed.frames.items) owned.frames.items))
      (map ref_item_of borrowed.frames.items) ≡ true
  pub places : starts_with nat_eq owned.places.items borrowed.places.items ≡ true
  pub ends : EndsAlike (slice_get owned.frames.items (length borrowed.frames.items)) owned.ended borrowed.ended
