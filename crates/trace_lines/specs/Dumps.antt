-- What the dump of given bytes is: its lines, and the status that the program ends with.
use Rattle.std.specs.Prelude.{◌≡◌, ◌≤◌, ◌⊎◌, ℕ, ◌-◌, Bool, true, false, List, [], ◌++◌, length, drop}
use Rattle.std.specs.List.{flat_map}
use Rattle.std.specs.declared.io.ErrorKind.{ErrorKind}
use Rattle.trace_values.specs.Values.{Kind, owned_reader, borrowed}
use Rattle.trace_values.specs.Sending.{Account, Took, TookOnly}
use Rattle.trace_wire.specs.Schemas.{Shape}
use Rattle.trace_wire.specs.Frames.{Grammar, empty, Frame, Schema, header_length}
use Rattle.trace_wire.specs.Runs.{Begins, Ending, Whole, Stopped, Conflict, IsLongest, Item, items, Pools, no_pools}
use Rattle.dial9_trace_format.specs.Decoding.{StartsWith, IsHeadless}
use Rattle.dial9_trace_format.specs.Sinks.{events_of}
use Rattle.trace_lines.specs.Lines.{line, item_line, first_line, no_header_line, whole_line, stopped_line}
use Rattle.trace_lines.specs.Lines.{conflict_line}
use Rattle.trace_lines.specs.ResolvedLines.{event_lines}
use Rattle.trace_lines.specs.declared.dump.DumpForm.{DumpForm}
use Rattle.trace_lines.specs.declared.dump.DumpForm.TheVariants.{Frames, Events}
use Rattle.trace_lines.specs.declared.dump.Reader.{Reader}
use Rattle.trace_lines.specs.declared.dump.Reader.TheVariants.{Owned, Borrowed}

-- what the program ends with: where the trace is whole, where no header stands, where it stops inside, at a conflict
-- of schemas, and where memory, the input or the output failed
abbrev pub whole_status : ℕ
whole_status = 0

abbrev pub no_header_status : ℕ
no_header_status = 1

abbrev pub stopped_status : ℕ
stopped_status = 2

abbrev pub conflict_status : ℕ
conflict_status = 3

abbrev pub failed_status : ℕ
failed_status = 4

-- which kind a reader is
abbrev pub kind_of : Reader → Kind
kind_of Owned = owned_reader
kind_of Borrowed = borrowed

-- which reader a dump is of: where events are resolved, that of borrowed values
abbrev pub kind_of_form : DumpForm → Kind
kind_of_form (Frames reader) = kind_of reader
kind_of_form Events = borrowed

-- the line of each item
abbrev pub item_lines : List Item → List ℕ
item_lines shown = flat_map (λ i. line (item_line i)) shown

-- the lines of frames that are read one after another, in a state and with pools: of each item, or of each event,
-- resolved
abbrev pub frame_lines : DumpForm → Grammar → Pools → List Frame → List ℕ
frame_lines (Frames reader) g p frames = item_lines (items frames)
frame_lines Events g p frames = event_lines (events_of g p frames)

-- The last line and the status, where the longest run over bytes of a size ends before the rest. A place is told by
-- the bytes before it: before the rest, or after the schema that differs from what its wire id stands for.
abbrev pub IsEnd : Kind → ℕ → Grammar → List ℕ → Ending → ℕ → List ℕ → Type 0
IsEnd k size last rest Whole status text = (status ≡ whole_status) × (text ≡ whole_line)
IsEnd k size last rest Stopped status text = (status ≡ stopped_status) × (text ≡ stopped_line (size - length rest))
IsEnd k size last rest Conflict status text =
    (id : ℕ) × (shape : Shape) × (after : List ℕ) × Begins k last rest (Schema id shape) after
    × (status ≡ conflict_status)
    × (text ≡ conflict_line (size - length after) id)

-- the lines after the first, of bytes that end an input of a size, in a state and with pools: those of the longest
-- run of the reader, and of its end
pub record IsDumpFrom (form : DumpForm) (g : Grammar) (p : Pools) (size : ℕ) (bytes : List ℕ) (status : ℕ)
    (text : List ℕ) : Type 0 where
  pub frames : List Frame
  pub rest : List ℕ
  pub end : Ending
  pub last : Grammar
  pub longest : IsLongest (kind_of_form form) g bytes frames rest end last
  pub last_line : List ℕ
  pub ends : IsEnd (kind_of_form form) size last rest end status last_line
  pub text_is : text ≡ frame_lines form g p frames ++ line last_line

-- the dump of an input that does not begin with a header
pub record IsNoDump (input : List ℕ) (status : ℕ) (text : List ℕ) : Type 0 where
  pub no_header : IsHeadless input
  pub status_is : status ≡ no_header_status
  pub text_is : text ≡ line no_header_line

-- the dump of a stream: its version, and the lines of what stands after its header
pub record IsStreamDump (form : DumpForm) (input : List ℕ) (status : ℕ) (text : List ℕ) : Type 0 where
  pub version : ℕ
  pub header : StartsWith input version
  pub lines : List ℕ
  pub following : IsDumpFrom form empty no_pools (length input) (drop header_length input) status lines
  pub text_is : text ≡ line (first_line version) ++ lines

-- the dump of any input in a form
abbrev pub IsDumpAs : DumpForm → List ℕ → ℕ → List ℕ → Type 0
IsDumpAs form input status text = IsNoDump input status text ⊎ IsStreamDump form input status text

-- the form of a dump where events are resolved, or not
abbrev pub form_by : Bool → DumpForm
form_by false = Frames Owned
form_by true = Events

-- the dump of any input: of all its items as they are, or of its events, resolved
abbrev pub IsDump : Bool → List ℕ → ℕ → List ℕ → Type 0
IsDump resolve = IsDumpAs (form_by resolve)

-- bytes that a dump begins with, whichever its status is
abbrev pub IsFrontOfDump : (ℕ → List ℕ → Type 0) → List ℕ → Type 0
IsFrontOfDump is_dump written = (status : ℕ) × (following : List ℕ) × is_dump status (written ++ following)

-- bytes that the dump of an input in a form begins with
abbrev pub BeginsDumpAs : DumpForm → List ℕ → List ℕ → Type 0
BeginsDumpAs form input = IsFrontOfDump (IsDumpAs form input)

-- bytes that the dump of an input begins with
abbrev pub BeginsDump : Bool → List ℕ → List ℕ → Type 0
BeginsDump resolve = BeginsDumpAs (form_by resolve)

-- a text that is so went to a writer, without a fault
abbrev pub Prints : (List ℕ → Type 0) → Account → Account → Type 0
Prints is_so old new = (text : List ℕ) × is_so text × Took old new text []

-- a text that is so went to a writer, and then one fault came, or none; nothing was handed on
abbrev pub PrintsUpToFault : (List ℕ → Type 0) → Account → Account → Type 0
PrintsUpToFault is_so old new =
    (written : List ℕ) × is_so written × (faults : List ErrorKind) × (length faults ≤ 1)
    × TookOnly old new written faults
