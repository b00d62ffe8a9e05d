-- For private contracts: where the schema of an event stands.
use Rattle.std.specs.Prelude.{◌≡◌, ◌<◌, ◌⊎◌, ℕ, true, false, List, [], ◌∷◌, ◌++◌, length, get_or, Result, Ok, Err}
use Rattle.trace_wire.specs.Schemas.{Entry}
use Rattle.trace_stats.specs.Events.{IsSchemaOf}
use Rattle.trace_events.specs.Schemas.{bare, is_same_schema}
use Rattle.trace_stats.specs.declared.full.Full.{Full}
use Rattle.trace_stats.specs.declared.schema.SchemaStats.{SchemaStats}
use Rattle.trace_stats.specs.declared.trace.StatsError.{StatsError}
use Rattle.trace_stats.specs.declared.trace.StatsError.TheVariants as errors

-- this schema stands there
pub record IsPlaceOf (e : Entry) (ts : List SchemaStats) (i : ℕ) : Type 0 where
  pub inside : i < length ts
  pub same : (d : SchemaStats) → is_same_schema (get_or ts i d).schema e ≡ true

-- another one does
abbrev pub IsNoPlaceOf : Entry → List SchemaStats → ℕ → Type 0
IsNoPlaceOf e ts i = (d : SchemaStats) → is_same_schema (get_or ts i d).schema e ≡ false

-- it stands nowhere
abbrev pub HasNoPlace : Entry → List SchemaStats → Type 0
HasNoPlace e ts = (i : ℕ) (d : SchemaStats) → i < length ts → is_same_schema (get_or ts i d).schema e ≡ false

-- it was new, and was put in last, of no events
pub record IsPutLast (e : Entry) (old new : List SchemaStats) (i : ℕ) : Type 0 where
  pub none : HasNoPlace e old
  pub place : i ≡ length old
  pub stats : SchemaStats
  pub put : new ≡ old ++ stats ∷ []
  pub schema : stats.schema ≡ bare e
  pub empty : IsSchemaOf [] stats

-- it stands there, and stood there before or was put in
abbrev pub FindsPlace : Entry → List SchemaStats → List SchemaStats → ℕ → Type 0
FindsPlace e old new i = (IsPlaceOf e old i × (new ≡ old)) ⊎ IsPutLast e old new i

-- the answer of the statistics of a schema, as that of a trace's
abbrev pub answer_of : Result (Unit {0}) Full → Result (Unit {0}) StatsError
answer_of (Ok u) = Ok u
answer_of (Err e) = Err errors.Full
