-- What a cut of bytes is.
use Rattle.std.specs.Prelude.{◌≡◌, ◌⊎◌, ℕ, ◌+◌, List, [], length, drop, filter, Option, Some, None}
use Rattle.trace_values.specs.Values.{owned_reader}
use Rattle.trace_wire.specs.declared.schema.WireTypeId.{WireTypeId}
use Rattle.trace_wire.specs.Schemas.{Shape}
use Rattle.trace_wire.specs.Frames.{Grammar, empty, Frame, Schema, header_length}
use Rattle.trace_wire.specs.Runs.{IsRun, all_of_kind, IsLongest, Begins, Ending, Conflict, items}
use Rattle.trace_wire.specs.Runs.{no_pools}
use Rattle.dial9_trace_format.specs.Decoding.{StartsWith, IsHeadless}
use Rattle.dial9_trace_format.specs.Sinks.{events_of}
use Rattle.trace_cuts.specs.declared.range.TimeRange.{TimeRange}
use Rattle.trace_cuts.specs.declared.cut.Cut.{Cut}
use Rattle.trace_cuts.specs.Ranges.{stays, is_copied, is_no_reset, is_event_within}
use Rattle.trace_cuts.specs.Resets.{NeedsResets}

-- frames that are others, headers among them, but for resets and for the events outside of a range; each event has the
-- schema and the pools that it had, and no reset is needless
pub record IsCutOfFrames (r : TimeRange) (frames kept : List Frame) : Type 0 where
  pub copied : filter is_no_reset kept ≡ filter (is_copied r) frames
  pub items : items kept ≡ filter (stays r) (items frames)
  pub events : events_of empty no_pools kept ≡ filter (is_event_within r) (events_of empty no_pools frames)
  pub resets : NeedsResets r frames kept

-- the bytes spell these frames after a header of this version, to their end
pub record IsTraceOfFrames (version : ℕ) (bytes : List ℕ) (frames : List Frame) : Type 0 where
  pub header : StartsWith bytes version
  pub last : Grammar
  pub run : IsRun (all_of_kind owned_reader frames) empty (drop header_length bytes) frames last

-- a wire id is told where the longest run ends at a schema without a step, which stands there under it
abbrev pub TellsConflict : Grammar → List ℕ → Ending → Option WireTypeId → Type 0
TellsConflict last rest Conflict (Some id) =
    (shape : Shape) × (after : List ℕ) × Begins owned_reader last rest (Schema id.0 shape) after
TellsConflict last rest Conflict None = ⊥
TellsConflict last rest end (Some id) = ⊥
TellsConflict last rest end None = Unit {0}

-- no header stands there: nothing is cut
pub record HasNoCut (bytes : List ℕ) (cut : Cut) : Type 0 where
  pub headless : IsHeadless bytes
  pub length_is : cut.length ≡ 0
  pub none : cut.bytes.items ≡ []
  pub conflict : cut.conflict ≡ None

-- a header, and the longest run of owned frames after it: the cut is a trace of what stays of its frames
pub record CutsRun (r : TimeRange) (bytes : List ℕ) (cut : Cut) : Type 0 where
  pub version : ℕ
  pub header : StartsWith bytes version
  pub frames : List Frame
  pub rest : List ℕ
  pub end : Ending
  pub last : Grammar
  pub run : IsLongest owned_reader empty (drop header_length bytes) frames rest end last
  pub length_is : cut.length + length rest ≡ length bytes
  pub conflict : TellsConflict last rest end cut.conflict
  pub kept : List Frame
  pub trace : IsTraceOfFrames version cut.bytes.items kept
  pub cut_of : IsCutOfFrames r frames kept

-- what a cut of bytes is
abbrev pub IsCut : TimeRange → List ℕ → Cut → Type 0
IsCut r bytes cut = HasNoCut bytes cut ⊎ CutsRun r bytes cut
