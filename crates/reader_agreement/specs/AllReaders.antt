-- What all readers of one trace give.
use Rattle.std.specs.Prelude.{◌≡◌, ℕ, true, List, map, length, Option, None}
use Rattle.std.specs.Cmp.Lexicographic.{pointwise}
use Rattle.dial9_trace_format.specs.DecodedFrames.{item_of, same_item}
use Rattle.dial9_trace_format.specs.declared.decoder.error.DecodeError.{DecodeError}
use Rattle.reader_agreement.specs.Causes.{IsToldFor}
use Rattle.reader_agreement.specs.Readings.{Agreement}
use Rattle.reader_agreement.specs.declared.ends.Ended.{Ended}
use Rattle.reader_agreement.specs.declared.frames.Borrowed.{Borrowed}
use Rattle.reader_agreement.specs.declared.frames.Owned.{Owned}
use Rattle.reader_agreement.specs.declared.readings.Fed.{Fed}
use Rattle.reader_agreement.specs.declared.readings.Observed.{Observed}
use Rattle.reader_agreement.specs.declared.readings.Reading.{Reading}
use Rattle.reader_agreement.specs.declared.readings.Readings.{Readings}
use Rattle.reader_agreement.specs.declared.readings.Showing.{Showing}

-- So many were given, all as they are wanted; the reader ended by this error or none, stands at this place, and gives
-- nothing more.
pub record IsWhole (given : ℕ) (error : Option DecodeError) (place : ℕ) (reading : Reading) : Type 0 where
  pub many : reading.run.given ≡ given
  pub same : reading.run.same ≡ true
  pub ended : reading.run.error ≡ error
  pub stands : reading.place ≡ place
  pub over : reading.over ≡ true

-- Readers of many frames give the frames, and end without an error where they end; iterators give the error too.
pub record GiveAll (owned : Owned) (borrowed : Borrowed) (events : ℕ) (readings : Readings) : Type 0 where
  pub all_owned : IsWhole (length owned.frames.items) None owned.ended.place readings.all_owned
  pub all_borrowed : IsWhole (length borrowed.frames.items) None borrowed.ended.place readings.all_borrowed
  pub frames : IsWhole (length borrowed.frames.items) borrowed.ended.error borrowed.ended.place readings.frames
  pub shown : IsWhole events borrowed.ended.error borrowed.ended.place readings.events

-- A decoder that was fed a trace in two pieces gave its frames, and ended as a reader of frames does. No piece was
-- answered with an error but the second, with the fault that the first had left.
pub record FedAlike (owned : Owned) (fed : Fed) : Type 0 where
  pub frames : pointwise same_item (map item_of fed.frames.items) (map item_of owned.frames.items) ≡ true
  pub first : fed.first ≡ None
  pub second : fed.second ≡ fed.between
  pub ended : fed.ended ≡ owned.ended

-- a sink was shown so many events, all right, up to where a reader of frames ends, and why was told
pub record IsShownAll (bytes : List ℕ) (events : ℕ) (ended : Ended) (showing : Showing) : Type 0 where
  pub many : showing.events ≡ events
  pub right : showing.right ≡ true
  pub place : showing.place ≡ ended.place
  pub told : IsToldFor bytes ended.place showing.told ended.error

-- all readers of these bytes give the same, of which so many are events
pub record ReadsAlike (bytes : List ℕ) (owned : Owned) (borrowed : Borrowed) (events : ℕ) (observed : Observed)
    : Type 0 where
  pub frames : Agreement owned borrowed
  pub fed : FedAlike owned observed.fed
  pub read : GiveAll owned borrowed events observed.readings
  pub taken : IsShownAll bytes events borrowed.ended observed.taking
  pub refused : IsShownAll bytes events borrowed.ended observed.refusing
