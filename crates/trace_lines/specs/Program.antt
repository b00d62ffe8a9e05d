-- What the program that dumps is asked for, and what it does.
use Rattle.std.specs.Prelude.{◌≡◌, ℕ, Bool, List, Option, Some}
use Rattle.trace_values.specs.Sending.{Account}
use Rattle.trace_lines.specs.Dumps.{IsDump, Prints}

-- the dump of all that a reader has left was written, where it tells what it has left
abbrev pub DumpsAll : Bool → Option (List ℕ) → Account → Account → ℕ → Type 0
DumpsAll resolve remaining old new status =
    (bytes : List ℕ) → remaining ≡ Some bytes → Prints (IsDump resolve bytes status) old new
