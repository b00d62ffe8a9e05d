-- Lines that are held before they are sent, and sent as they grow.
use Rattle.std.specs.Prelude.{◌≡◌, ℕ, List, [], ◌++◌, Result, Ok, Err, string_bytes}
use Rattle.trace_values.specs.Sending.{Account, TookOnly}
use Rattle.trace_lines.specs.Dumps.{PrintsUpToFault}
use Rattle.trace_lines.specs.declared.sending.GrowingLines.{GrowingLines}
use Rattle.trace_lines.specs.declared.sent_lines.LineFault.{LineFault}
use Rattle.trace_lines.specs.declared.sent_lines.LineFault.TheVariants.{OutOfMemory, Unsent}

-- a front of the bytes went to a writer without a fault, and this is the rest
pub record Leaves (old new : Account) (whole rest : List ℕ) : Type 0 where
  pub sent : List ℕ
  pub took : TookOnly old new sent []
  pub is : whole ≡ sent ++ rest

-- bytes are a front of others
abbrev pub BeginsWith : List ℕ → List ℕ → Type 0
BeginsWith whole written = (following : List ℕ) × (whole ≡ written ++ following)

-- What an answer says of bytes that were to go through lines to their writer. Where all was appended, these are the
-- rest that was not sent. Where a growth was refused, what is held is a front of the rest. Where the writer failed, it
-- got a front of the bytes, and nothing after its fault.
abbrev pub GoThrough : Account → Account → List ℕ → List ℕ → List ℕ → Result (Unit {0}) LineFault → Type 0
GoThrough old new whole rest held (Ok u) = Leaves old new whole rest
GoThrough old new whole rest held (Err OutOfMemory) = (after : List ℕ) × Leaves old new whole (held ++ after)
GoThrough old new whole rest held (Err Unsent) = PrintsUpToFault (BeginsWith whole) old new

-- This text came after the lines that are held, and of all that a front was sent; or not all of it came.
abbrev pub HoldsText : Account → Account → GrowingLines → GrowingLines → List ℕ → Result (Unit {0}) LineFault → Type 0
HoldsText before after old new text result =
    GoThrough before after (string_bytes old.held ++ text) (string_bytes new.held) (string_bytes new.held) result
