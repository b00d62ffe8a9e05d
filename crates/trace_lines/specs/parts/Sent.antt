-- For private contracts: what the parts of a dump write. Beside the dump itself, for the functions inside.
use Rattle.std.specs.Prelude.{◌≡◌, ◌≢◌, ◌<◌, ◌≤◌, ◌⊎◌, ℕ, List, [], ◌∷◌, ◌++◌, length, Option, None, Some, Result, Ok}
use Rattle.std.specs.Prelude.{Err, string_bytes}
use Rattle.trace_values.specs.Sending.{Account, TookOnly}
use Rattle.trace_wire.specs.Frames.{Frame}
use Rattle.trace_wire.specs.Runs.{Item, items}
use Rattle.dial9_trace_format.specs.Decoding.{DecoderState, rest_of, Goes}
use Rattle.trace_lines.specs.Lines.{line, item_line, first_line, no_header_line, whole_line, stopped_line}
use Rattle.trace_lines.specs.Lines.{conflict_line}
use Rattle.dial9_trace_format.specs.declared.decoder.error.DecodeError.{DecodeError}
use Rattle.dial9_trace_format.specs.declared.decoder.error.DecodeErrorKind.{DecodeErrorKind}
use Rattle.dial9_trace_format.specs.declared.decoder.error.DecodeErrorKind.TheVariants as error_kinds
use Rattle.trace_values.specs.Number.{AreBytes}
use Rattle.trace_lines.specs.Dumps.{whole_status, no_header_status, stopped_status, conflict_status, kind_of}
use Rattle.trace_lines.specs.Dumps.{IsDumpFrom, IsFrontOfDump, PrintsUpToFault}
use Rattle.trace_lines.specs.declared.dump.DumpForm.{DumpForm}
use Rattle.trace_lines.specs.declared.dump.DumpForm.TheVariants.{Frames}
use Rattle.trace_lines.specs.declared.dump.Reader.{Reader}
use Rattle.trace_lines.specs.declared.sent_lines.Lines.{Lines}
use Rattle.trace_lines.specs.declared.dump.Gathered.{Gathered}
use Rattle.trace_lines.specs.declared.dump.Gathered.TheVariants.{All, Enough, OutOfMemory}

-- a decoder has told no error, and stands within its input
pub record IsReading (r : DecoderState) : Type 0 where
  pub works : r.failure ≡ None
  pub inside : r.position ≤ length r.input

-- the same, and what it has left are bytes
pub record IsGoing (r : DecoderState) : Type 0 where
  pub reading : IsReading r
  pub fits : AreBytes (rest_of r)

-- the dump of what a decoder has left
abbrev pub IsRestOfDump : DumpForm → DecoderState → ℕ → List ℕ → Type 0
IsRestOfDump form r status text = IsDumpFrom form r.grammar r.pools (length r.input) (rest_of r) status text

-- a whole dump went to a writer without a fault, and its status is the answer; or a front of it, and then one fault
-- came, or none. Nothing was handed on
abbrev pub Sends : {E : Type 0} → Account → Account → (ℕ → List ℕ → Type 0) → Result ℕ E → Type 0
Sends old new dump (Ok status) = (text : List ℕ) × dump status text × TookOnly old new text []
Sends old new dump (Err e) = PrintsUpToFault (IsFrontOfDump dump) old new

-- the lines of a trace whose decoder stands after its header
abbrev pub AreStreamLines : DumpForm → DecoderState → ℕ → List ℕ → Type 0
AreStreamLines form r status text =
    (lines : List ℕ) × IsRestOfDump form r status lines × (text ≡ line (first_line r.version) ++ lines)

-- the line and the status where no header stands
abbrev pub IsOnlyLine : ℕ → List ℕ → Type 0
IsOnlyLine status text = (status ≡ no_header_status) × (text ≡ line no_header_line)

-- the last line and the status at a place where no frame stands
abbrev pub LastLineHere : DecoderState → ℕ → List ℕ → Type 0
LastLineHere r status text =
    ((r.position ≡ length r.input) × (status ≡ whole_status) × (text ≡ line whole_line))
    ⊎ ((r.position ≢ length r.input) × (status ≡ stopped_status) × (text ≡ line (stopped_line r.position)))

-- the last line and the status where an error of this kind is told at this place: a schema differs from what its wire
-- id stands for, or no frame stands where the decoder does
abbrev pub TellsError : DecoderState → ℕ → DecodeErrorKind → ℕ → List ℕ → Type 0
TellsError r pos (error_kinds.Conflict id) status text =
    (status ≡ conflict_status) × (text ≡ line (conflict_line pos id.0))
TellsError r pos error_kinds.OutOfMemory status text = ⊥
TellsError r pos kind status text = LastLineHere r status text

-- the last line and the status where a reader of events has ended
abbrev pub TellsEnd : DecoderState → Option DecodeError → ℕ → List ℕ → Type 0
TellsEnd r None status text = LastLineHere r status text
TellsEnd r (Some e) status text = TellsError r e.pos e.kind status text

-- that line was held too, or a growth was refused
abbrev pub HoldsLast : DecoderState → Option DecodeError → List ℕ → List ℕ → Gathered → Type 0
HoldsLast r error held text (All status) = (last : List ℕ) × TellsEnd r error status last × (text ≡ held ++ last)
HoldsLast r error held text Enough = ⊥
HoldsLast r error held text OutOfMemory = text ≡ held

-- the lines of the frames up to the next one that is shown; or the last line, and its status
abbrev pub IsNextLine : Reader → DecoderState → DecoderState → List ℕ → Option ℕ → Type 0
IsNextLine reader old new text None =
    (frames : List Frame) × (shown : Item) × Goes (kind_of reader) old new frames × (items frames ≡ shown ∷ [])
    × (text ≡ line (item_line shown))
IsNextLine reader old new text (Some status) = IsRestOfDump (Frames reader) old status text

-- lines that are held, and then the dump of what a decoder has left
abbrev pub IsHeldDump : DumpForm → List ℕ → DecoderState → ℕ → List ℕ → Type 0
IsHeldDump form held r status text = (rest : List ℕ) × IsRestOfDump form r status rest × (text ≡ held ++ rest)

-- these lines come first in the dump of what a decoder has left, before the dump of what a later place has left
pub record ComeFirst (form : DumpForm) (old new : DecoderState) (lines : List ℕ) : Type 0 where
  pub goes_on :
      (status : ℕ) (rest : List ℕ) → IsRestOfDump form new status rest → IsRestOfDump form old status (lines ++ rest)
  pub shorter : length (rest_of new) ≤ length (rest_of old)
  pub going : IsGoing new

-- lines were gathered after those that were held: all, a part of them, or such as the dump goes on after
abbrev pub Gathers : DumpForm → DecoderState → DecoderState → List ℕ → List ℕ → Gathered → Type 0
Gathers form old new held text (All status) = IsHeldDump form held old status text
Gathers form old new held text Enough =
    (lines : List ℕ) × (text ≡ held ++ lines) × ComeFirst form old new lines
    × (length (rest_of new) < length (rest_of old))
Gathers form old new held text OutOfMemory =
    (status : ℕ) × (after : List ℕ) × IsHeldDump form held old status (text ++ after)

-- the same, where a front of all these went to a writer already; or the writer failed, and got a front of the dump
abbrev pub GathersOn : {E : Type 0} → Account → Account → DumpForm → DecoderState → DecoderState → List ℕ → List ℕ
    → Result Gathered E → Type 0
GathersOn a b form old new held text (Ok gathered) =
    (sent : List ℕ) × TookOnly a b sent [] × Gathers form old new held (sent ++ text) gathered
GathersOn a b form old new held text (Err e) = PrintsUpToFault (IsFrontOfDump (IsHeldDump form held old)) a b

-- the same of lines, which keep their writer
pub record GathersLines {W E : Type 0} (told : W → Account) (form : DumpForm) (old new : DecoderState)
    (s t : Lines W) (result : Result Gathered E) : Type 0 where
  pub same_writer : t.out.ghost_name ≡ s.out.ghost_name
  pub gathered : GathersOn (told s.out.now) (told t.out.now) form old new (string_bytes s.held)
      (string_bytes t.held) result
