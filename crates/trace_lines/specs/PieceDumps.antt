-- The dump of an input that comes in pieces.
use Rattle.std.specs.Prelude.{◌≡◌, ℕ, ◌≤◌, false, List, length, Option, Some}
use Rattle.std.specs.Io.KnownBytes.{Consumes}
use Rattle.trace_values.specs.Number.{AreBytes}
use Rattle.trace_values.specs.Sending.{Account}
use Rattle.trace_lines.specs.Dumps.{BeginsDump, IsDump, Prints, PrintsUpToFault}

-- ---- what is written of an input

-- The dump of all that was read was written, whether or not the reader tells what it has left.
pub record DumpsRead (before after : Option (List ℕ)) (old new : Account) (status : ℕ) : Type 0 where
  pub read : List ℕ
  pub consumed : Consumes before after read
  pub printed : Prints (IsDump false read status) old new

-- A front of the dump of all that was read was written; and then one fault came, or none.
pub record DumpsFrontOfRead (before after : Option (List ℕ)) (old new : Account) : Type 0 where
  pub read : List ℕ
  pub consumed : Consumes before after read
  pub printed : PrintsUpToFault (BeginsDump false read) old new

-- A front of the dump of all that a reader has left was written, where it tells that; and then one fault came, or
-- none.
abbrev pub DumpsFrontOfBytes : Option (List ℕ) → Account → Account → Type 0
DumpsFrontOfBytes remaining old new =
    (bytes : List ℕ) → remaining ≡ Some bytes → AreBytes bytes → PrintsUpToFault (BeginsDump false bytes) old new

-- ---- what is read of it

-- At most so many bytes were read.
pub record ReadsWithin (most : ℕ) (before after : Option (List ℕ)) : Type 0 where
  pub read : List ℕ
  pub consumed : Consumes before after read
  pub few : length read ≤ most
