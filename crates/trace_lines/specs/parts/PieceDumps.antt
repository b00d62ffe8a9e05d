-- For private contracts: the dump of an input that comes in pieces.
use Rattle.std.specs.Prelude.{◌≡◌, ℕ, ◌+◌, ◌<◌, ◌≤◌, false, List, [], ◌++◌, length, Option, None, Some, Result, Ok, Err}
use Rattle.std.specs.Io.KnownBytes.{Consumes}
use Rattle.trace_values.specs.Number.{AreBytes}
use Rattle.trace_values.specs.Sending.{Account, TookOnly}
use Rattle.trace_values.specs.Values.{owned_reader}
use Rattle.trace_wire.specs.Frames.{empty, header_length}
use Rattle.trace_wire.specs.Runs.{NoFrame, no_pools, Item}
use Rattle.dial9_trace_format.specs.Feeding.{FeedState, greatest_fed}
use Rattle.dial9_trace_format.specs.declared.decoder.error.DecodeError.{DecodeError}
use Rattle.dial9_trace_format.specs.declared.decoder.error.DecodeErrorKind.{DecodeErrorKind}
use Rattle.dial9_trace_format.specs.declared.decoder.error.DecodeErrorKind.TheVariants as error_kinds
use Rattle.dial9_trace_format.specs.Sticking.{IsStuckAt}
use Rattle.trace_lines.specs.Lines.{line, item_line, first_line, no_header_line, stopped_line, conflict_line}
use Rattle.trace_lines.specs.Dumps.{no_header_status, stopped_status, conflict_status, IsDumpFrom, IsDumpAs, IsDump}
use Rattle.trace_lines.specs.Dumps.{IsFrontOfDump, PrintsUpToFault}
use Rattle.trace_lines.specs.declared.dump.DumpForm.TheVariants.{Frames}
use Rattle.trace_lines.specs.declared.dump.Reader.TheVariants.{Owned}
use Rattle.trace_lines.specs.declared.pieces.Next.{Next}
use Rattle.trace_lines.specs.declared.pieces.Next.TheVariants.{Line, Wait, End}
use Rattle.trace_lines.specs.PieceDumps.{DumpsFrontOfBytes, DumpsFrontOfRead}

-- A text is the dump of what was read, and that of all that the reader had left, where it tells that.
pub record IsDumpRead (before after : Option (List ℕ)) (status : ℕ) (text : List ℕ) : Type 0 where
  pub read : List ℕ
  pub consumed : Consumes before after read
  pub of_read : IsDump false read status text
  pub of_all : (bytes : List ℕ) → before ≡ Some bytes → IsDump false bytes status text
  pub few : length read ≤ greatest_fed

-- it went to a writer, and its status is the answer; or a front of it, and then one fault came, or none
abbrev pub SendsRead : {E : Type 0} → Account → Account → Option (List ℕ) → Option (List ℕ) → Result ℕ E → Type 0
SendsRead a b before after (Ok status) =
    (text : List ℕ) × IsDumpRead before after status text × TookOnly a b text []
SendsRead a b before after (Err e) = DumpsFrontOfBytes before a b × DumpsFrontOfRead before after a b

-- the last line where an error of this kind is told at this place, and the status
abbrev pub AppendsEnd : ℕ → DecodeErrorKind → ℕ → List ℕ → List ℕ → Type 0
AppendsEnd place (error_kinds.Conflict id) status old new =
    (status ≡ conflict_status) × (new ≡ old ++ line (conflict_line place id.0))
AppendsEnd place error_kinds.NoHeader status old new =
    (status ≡ no_header_status) × (new ≡ old ++ line no_header_line)
AppendsEnd place kind status old new = ⊥

-- what is left of the dump of an input of which a decoder was fed a front, and which goes on by these bytes: all of
-- it before a header was read, and then the lines of the frames to come
abbrev pub IsLeftBy : Option ℕ → FeedState → List ℕ → ℕ → List ℕ → Type 0
IsLeftBy None s more status text = IsDumpAs (Frames Owned) (s.kept ++ more) status text
IsLeftBy (Some version) s more status text =
    IsDumpFrom (Frames Owned) s.grammar s.pools (s.position + length (s.kept ++ more)) (s.kept ++ more) status text

abbrev pub IsLeft : FeedState → List ℕ → ℕ → List ℕ → Type 0
IsLeft s = IsLeftBy s.version s

-- The decoder took these bytes, and these lines came of them. However the input goes on, they come first of what was
-- left, before what is left now.
abbrev pub LinesCome : FeedState → List ℕ → FeedState → List ℕ → Type 0
LinesCome old bytes new lines = (more : List ℕ) (status : ℕ) (rest : List ℕ)
    → IsLeft new more status rest → IsLeft old (bytes ++ more) status (lines ++ rest)

-- however the input goes on after these bytes, these lines are all of what was left
abbrev pub LinesEnd : FeedState → List ℕ → ℕ → List ℕ → Type 0
LinesEnd old bytes status lines = (more : List ℕ) → IsLeft old (bytes ++ more) status lines

-- in whatever bytes the input goes on after these, what was left begins with these lines
abbrev pub LinesBegin : FeedState → List ℕ → List ℕ → Type 0
LinesBegin old bytes lines = (more : List ℕ) → AreBytes more → IsFrontOfDump (IsLeft old (bytes ++ more)) lines

-- A decoder that has not failed, keeps bytes, and counts them. Before a header was read it stands as a new one.
pub record IsFed (s : FeedState) : Type 0 where
  pub works : s.fault ≡ None
  pub fits : AreBytes s.kept
  pub counted : s.position + length s.kept ≡ s.fed_len
  pub begins : s.version ≡ None → (s.position ≡ 0) × (s.grammar ≡ empty) × (s.pools ≡ no_pools)

-- the same where no frame is whole
pub record IsWaiting (s : FeedState) : Type 0 where
  pub fed : IsFed s
  pub few : s.version ≡ None → length s.kept < header_length
  pub none : (version : ℕ) → s.version ≡ Some version → NoFrame owned_reader s.grammar s.kept

-- the first line where the version was unknown and became known, and else nothing
abbrev pub AppendsFirst : Option ℕ → Option ℕ → List ℕ → List ℕ → Type 0
AppendsFirst None (Some version) old new = new ≡ old ++ line (first_line version)
AppendsFirst None None old new = new ≡ old
AppendsFirst (Some known) after old new = new ≡ old

-- what is appended for an answer of `next_frame`: the line of a frame, none, or the last one
abbrev pub PulledLines : Result (Option Item) DecodeError → List ℕ → List ℕ → Next → Type 0
PulledLines (Ok (Some shown)) old new Line = new ≡ old ++ line (item_line shown)
PulledLines (Ok None) old new Wait = new ≡ old
PulledLines (Err e) old new (End status) = AppendsEnd e.pos e.kind status old new
PulledLines frame old new next = ⊥

-- nothing is appended; or the last line, where the decoder tells that no frame comes of what it keeps
abbrev pub StuckLines : FeedState → List ℕ → List ℕ → Next → Type 0
StuckLines s old new Line = ⊥
StuckLines s old new Wait = new ≡ old
StuckLines s old new (End status) =
    (e : DecodeError) × IsStuckAt s e × (status ≡ stopped_status) × (new ≡ old ++ line (stopped_line s.position))

-- the lines of the next frame; or of none, where none is whole; or all that are left
abbrev pub AreNextLines : FeedState → FeedState → List ℕ → Next → Type 0
AreNextLines old new lines Line = LinesCome old [] new lines × IsFed new × (length new.kept < length old.kept)
AreNextLines old new lines Wait = LinesCome old [] new lines × IsWaiting new
AreNextLines old new lines (End status) = LinesEnd old [] status lines

-- the lines of all frames that are whole with these bytes, or all that are left, with their status
abbrev pub ArePieceLines : FeedState → List ℕ → FeedState → List ℕ → Option ℕ → Type 0
ArePieceLines old bytes new lines None = LinesCome old bytes new lines × IsWaiting new
ArePieceLines old bytes new lines (Some status) = LinesEnd old bytes status lines

-- the same, or a front of them where a growth was refused
abbrev pub GathersPiece : {E : Type 0} → FeedState → List ℕ → FeedState → List ℕ → Result (Option ℕ) E → Type 0
GathersPiece old bytes new lines (Ok end) = ArePieceLines old bytes new lines end
GathersPiece old bytes new lines (Err e) = LinesBegin old bytes lines

-- these lines went to a writer; or a front of them, and then one fault came, or none. Nothing was handed on
abbrev pub SendsPiece : {E : Type 0} → Account → Account → FeedState → List ℕ → FeedState → Result (Option ℕ) E
    → Type 0
SendsPiece a b old bytes new (Ok end) = (lines : List ℕ) × ArePieceLines old bytes new lines end
    × TookOnly a b lines []
SendsPiece a b old bytes new (Err e) = PrintsUpToFault (LinesBegin old bytes) a b

-- the bytes of a piece were counted, and the count is within its range
pub record CountsPiece (old : FeedState) (piece : List ℕ) (new : FeedState) : Type 0 where
  pub few : old.fed_len + length piece ≤ greatest_fed
  pub counted : new.fed_len ≡ old.fed_len + length piece
