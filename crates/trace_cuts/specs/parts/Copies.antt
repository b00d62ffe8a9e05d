-- For private contracts: what was copied of the frames that were read, and what one frame more does.
use Rattle.std.specs.Prelude.{◌≡◌, ◌<◌, ◌==◌, if◌then◌else◌, ℕ, ◌-◌, List}
use Rattle.std.specs.Prelude.{[], ◌++◌, length, take, Option, None, false}
use Rattle.trace_values.specs.Values.{Value, owned_reader}
use Rattle.trace_wire.specs.declared.schema.WireTypeId.{WireTypeId}
use Rattle.trace_wire.specs.Schemas.{Shape}
use Rattle.trace_wire.specs.Frames.{Grammar, grammar_of, empty, Frame, Event, Schema, reset_bytes}
use Rattle.trace_wire.specs.Runs.{step, IsRun, all_of_kind, Begins, NoFrame, Ending, EndsAs, pools_after, no_pools}
use Rattle.trace_cuts.specs.declared.range.TimeRange.{TimeRange}
use Rattle.trace_cuts.specs.declared.copying.Copying.{Copying}
use Rattle.trace_cuts.specs.declared.copying.Next.{Next}
use Rattle.trace_cuts.specs.declared.copying.Next.TheVariants as next
use Rattle.trace_cuts.specs.Cuts.{IsCutOfFrames, TellsConflict}
use Rattle.trace_cuts.specs.Resets.{base_after, is_left_out}

-- what stands before the last bytes
abbrev pub before : List ℕ → List ℕ → List ℕ
before bytes after = take (length bytes - length after) bytes

-- a reset to a base time, where another stands
abbrev pub needed_reset : ℕ → ℕ → List ℕ
needed_reset base time = if base == time then [] else reset_bytes time

-- Of bytes after a header frames were read, and these are left, in a grammar state. What was copied after a start are
-- the frames that stay of them. They leave the same wire types and pools, and a base time of their own: that of the
-- frames, where what set theirs was copied.
pub record Copies (r : TimeRange) (start bytes rest : List ℕ) (g : Grammar) (base : ℕ) (copied : List ℕ) : Type 0 where
  pub frames : List Frame
  pub taken : List ℕ
  pub parts : bytes ≡ taken ++ rest
  pub run : IsRun (all_of_kind owned_reader frames) empty taken frames g
  pub kept : List Frame
  pub spelled : List ℕ
  pub copied_is : copied ≡ start ++ spelled
  pub kept_run : IsRun (all_of_kind owned_reader kept) empty spelled kept (grammar_of g.wire_types base)
  pub cut : IsCutOfFrames r frames kept
  pub pools : pools_after no_pools kept ≡ pools_after no_pools frames
  pub base_is : base_after 0 frames ≡ g.base
  pub kept_base : base_after 0 kept ≡ base
  pub same_base : is_left_out r false frames ≡ false → base ≡ g.base

-- the same of what the code keeps
abbrev pub HasCopied : TimeRange → List ℕ → List ℕ → Copying → Type 0
HasCopied r start bytes s = Copies r start bytes s.rest.now s.grammar s.base s.kept.items

-- an event at this time stands there, and then these bytes
abbrev pub BeginsEventAt : Copying → ℕ → List ℕ → Type 0
BeginsEventAt s time after =
    (id : ℕ) × (values : List Value) × Begins owned_reader s.grammar s.rest.now (Event id time values) after

-- nothing was read yet
pub record IsFresh (start bytes : List ℕ) (s : Copying) : Type 0 where
  pub rest : s.rest.now ≡ bytes
  pub grammar : s.grammar ≡ empty
  pub base : s.base ≡ 0
  pub kept : s.kept.items ≡ start

-- one frame more was read
pub record CopiesOn (r : TimeRange) (old new : Copying) : Type 0 where
  pub copies : (start bytes : List ℕ) → HasCopied r start bytes old → HasCopied r start bytes new
  pub shorter : length new.rest.now < length old.rest.now

-- the same, whatever the range
abbrev pub CopiesHidden : Copying → Copying → Type 0
CopiesHidden old new = (r : TimeRange) → CopiesOn r old new

-- nothing changed
pub record StaysAsIs (old new : Copying) : Type 0 where
  pub rest : new.rest.now ≡ old.rest.now
  pub grammar : new.grammar ≡ old.grammar
  pub base : new.base ≡ old.base
  pub kept : new.kept.items ≡ old.kept.items

-- a schema without a step stands there, under this id
pub record EndsByConflict (s : Copying) (id : WireTypeId) : Type 0 where
  pub shape : Shape
  pub after : List ℕ
  pub begins : Begins owned_reader s.grammar s.rest.now (Schema id.0 shape) after
  pub no_step : step s.grammar (Schema id.0 shape) ≡ None

-- one frame more was read; or none stands there, or a schema without a step, and nothing changed
abbrev pub CopiesNext : TimeRange → Copying → Copying → Next → Type 0
CopiesNext r old new next.Frame = CopiesOn r old new
CopiesNext r old new next.End = StaysAsIs old new × NoFrame owned_reader old.grammar old.rest.now
CopiesNext r old new (next.Conflict id) = StaysAsIs old new × EndsByConflict old id

-- the same, whatever the range
abbrev pub CopiesOther : Copying → Copying → Next → Type 0
CopiesOther old new n = (r : TimeRange) → CopiesNext r old new n

-- all frames of the longest run were read
pub record HasCopiedAll (r : TimeRange) (start bytes : List ℕ) (s : Copying) (conflict : Option WireTypeId) : Type 0
  where
    pub copied : HasCopied r start bytes s
    pub end : Ending
    pub ends : EndsAs end owned_reader s.grammar s.rest.now
    pub conflict_is : TellsConflict s.grammar s.rest.now end conflict

abbrev pub CopiesAll : TimeRange → Copying → Copying → Option WireTypeId → Type 0
CopiesAll r old new conflict =
    (start bytes : List ℕ) → HasCopied r start bytes old → HasCopiedAll r start bytes new conflict
