-- What is read of a trace as a batch, and what a reader goes on with.
use Rattle.std.specs.Prelude.{◌≡◌, ◌≢◌, ◌⊎◌, ℕ, ◌+◌, ◌<◌, ◌≤◌, true, List, [], ◌∷◌, ◌++◌, length, drop}
use Rattle.std.specs.Prelude.{Option, Some, None}
use Rattle.std.specs.FinMap as map
use Rattle.std.specs.List.{AllByRecursion, filter}
use Rattle.trace_values.specs.Values.{borrowed}
use Rattle.trace_wire.specs.FrameTags.{event_tag}
use Rattle.trace_wire.specs.Schemas.{WireType, is_entry_too_long}
use Rattle.trace_wire.specs.WireTypes.{entry_of}
use Rattle.trace_wire.specs.Frames.{Grammar, empty, Frame, Header, Event}
use Rattle.trace_wire.specs.Frames.{header_length}
use Rattle.trace_wire.specs.Runs.{IsRun, all_of_kind, Begins, Ending, EndsAs, items, no_pools, pools_after}
use Rattle.dial9_trace_format.specs.Decoding.{StartsWith, IsHeadless}
use Rattle.dial9_trace_format.specs.Iterating.{is_event}
use Rattle.trace_fronts.specs.Fronts.{StopsBy}
use Rattle.trace_fronts.specs.declared.whole.Stop.{Stop}
use Rattle.trace_batch.specs.declared.read.ReadBatch.{ReadBatch}
use Rattle.trace_batch.specs.declared.read_error.ReadError.{ReadError}
use Rattle.trace_batch.specs.declared.read_error.ReadError.TheVariants as errors
use Rattle.trace_batch.specs.Batches.{AreRecords}
use Rattle.trace_batch.specs.Saying.{all_said}

-- how many of the frames are events
abbrev pub events_in : List Frame → ℕ
events_in frames = length (filter is_event (items frames))

-- a frame that is no header
abbrev pub IsNoHeader : Frame → Type 0
IsNoHeader (Header version) = ⊥
IsNoHeader f = Unit {0}

-- a frame that a state may have: no header, and no event
abbrev pub IsOfState : Frame → Type 0
IsOfState (Header version) = ⊥
IsOfState (Event id time values) = ⊥
IsOfState f = Unit {0}

-- The bytes are a header of this version and these frames, to their end, as the reader of borrowed values takes them;
-- none of them is a header or an event, and they lead to this grammar state.
pub record IsState (bytes : List ℕ) (version : ℕ) (frames : List Frame) (last : Grammar) : Type 0 where
  pub header : StartsWith bytes version
  pub run : IsRun (all_of_kind borrowed frames) empty (drop header_length bytes) frames last
  pub each : AllByRecursion IsOfState frames

-- Where reading begins: after the header of the trace, with nothing known; or, where it begins with none, at its
-- front, and known is what a state says.
abbrev pub StartsAt : List ℕ → List ℕ → ℕ → List Frame → Grammar → ℕ → Type 0
StartsAt state trace version known start place =
    (StartsWith trace version × (known ≡ []) × (start ≡ empty) × (place ≡ header_length))
    ⊎ (IsHeadless trace × IsState state version known start × (place ≡ 0))

-- frames that stand there, none of them a header or an event, lead to a schema that no record can tell
pub record ReachesTooLong (start : Grammar) (bytes : List ℕ) : Type 0 where
  pub frames : List Frame
  pub taken : List ℕ
  pub rest : List ℕ
  pub parts : bytes ≡ taken ++ rest
  pub last : Grammar
  pub run : IsRun (all_of_kind borrowed frames) start taken frames last
  pub each : AllByRecursion IsOfState frames
  pub id : ℕ
  pub wire_type : WireType
  pub held : map.get last.wire_types id ≡ Some wire_type
  pub long : is_entry_too_long (entry_of wire_type) ≡ true

-- why no more is read, where no cause is told: nothing is left, a header comes, an event where there are as many as may
-- be, or a schema that no record can tell where there is one event at least
abbrev pub EndsPlainly : ℕ → ℕ → Grammar → List ℕ → Type 0
EndsPlainly most events last rest = (rest ≡ [])
    ⊎ (((version : ℕ) × (after : List ℕ) × Begins borrowed last rest (Header version) after)
    ⊎ (((events ≡ most) × (after : List ℕ) × (rest ≡ event_tag ∷ after))
    ⊎ ((0 < events) × ReachesTooLong last rest)))

-- and where one is told: the longest run ends there, by this cause
abbrev pub EndsRead : ℕ → ℕ → Grammar → List ℕ → ℕ → Option Stop → Type 0
EndsRead most events last rest place None = EndsPlainly most events last rest
EndsRead most events last rest place (Some stop) = (end : Ending) × EndsAs end borrowed last rest
    × StopsBy borrowed last rest place end (Some stop)

-- What was read of the last bytes of a trace of a size, where these frames are known: the frames that come next,
-- without a header and with at most so many events. The batch says what is known and what was read. The state has the
-- same meaning for what comes after.
pub record ReadsFrom (bytes : List ℕ) (size most version : ℕ) (known : List Frame) (start : Grammar)
    (r : ReadBatch) : Type 0 where
  pub frames : List Frame
  pub taken : List ℕ
  pub rest : List ℕ
  pub parts : bytes ≡ taken ++ rest
  pub last : Grammar
  pub run : IsRun (all_of_kind borrowed frames) start taken frames last
  pub each : AllByRecursion IsNoHeader frames
  pub version_is : r.version ≡ version
  pub length_is : r.length + length rest ≡ size
  pub batch : AreRecords r.batch.items (all_said empty (known ++ frames))
  pub events_are : r.events ≡ events_in frames
  pub few : r.events ≤ most
  pub kept : List Frame
  pub state : IsState r.state.items version kept last
  pub pools : pools_after no_pools kept ≡ pools_after no_pools (known ++ frames)
  pub ends : EndsRead most r.events last rest r.length r.stop

-- what was read of a trace, after what a state says
pub record ReadsBatch (state trace : List ℕ) (most : ℕ) (r : ReadBatch) : Type 0 where
  pub version : ℕ
  pub known : List Frame
  pub start : Grammar
  pub place : ℕ
  pub starts : StartsAt state trace version known start place
  pub reads : ReadsFrom (drop place trace) (length trace) most version known start r

-- the bytes begin with a header, and the frames after it lead to a schema that no record can tell
abbrev pub StateReachesTooLong : List ℕ → Type 0
StateReachesTooLong state =
    ((version : ℕ) × StartsWith state version) × ReachesTooLong empty (drop header_length state)

-- the bytes are no state
abbrev pub IsNoState : List ℕ → Type 0
IsNoState state = (version : ℕ) (frames : List Frame) (last : Grammar) → IsState state version frames last → ⊥

-- neither the trace nor a state says where reading begins; or a schema is too long for a record, before any event; or a
-- growth was refused
abbrev pub RefusesToRead : List ℕ → List ℕ → ReadError → Type 0
RefusesToRead state trace errors.NoHeader = IsHeadless trace × (state ≡ [])
RefusesToRead state trace errors.NoState = IsHeadless trace × (state ≢ []) × IsNoState state
RefusesToRead state trace errors.TooLong =
    ((version : ℕ) × (known : List Frame) × (start : Grammar) × (place : ℕ)
    × StartsAt state trace version known start place × ReachesTooLong start (drop place trace))
    ⊎ (IsHeadless trace × StateReachesTooLong state)
RefusesToRead state trace errors.OutOfMemory = Unit {0}
