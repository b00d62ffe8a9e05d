-- Why an event is not counted.
use Rattle.std.specs.Prelude.{◌≡◌, ◌≤◌, false, List, length, All}
use Rattle.trace_wire.specs.Schemas.{Entry}
use Rattle.trace_events.specs.Schemas.{is_same_schema}
use Rattle.trace_stats.specs.Summaries.{most_counted}
use Rattle.trace_stats.specs.Events.{Counted}
use Rattle.trace_stats.specs.Traces.{AreStatsOf}
use Rattle.trace_stats.specs.declared.trace.TraceStats.{TraceStats}
use Rattle.trace_stats.specs.declared.trace.StatsError.{StatsError}
use Rattle.trace_stats.specs.declared.trace.StatsError.TheVariants.{OutOfMemory, Full}

-- a growth was refused, and all that is kept is as it was; or no more can be counted
abbrev pub RefusesEvent : TraceStats → TraceStats → StatsError → Type 0
RefusesEvent old new OutOfMemory = new.schemas.items ≡ old.schemas.items
RefusesEvent old new Full = (es : List Counted) → AreStatsOf es old → most_counted ≤ length es

-- no event of this schema was counted yet
abbrev pub IsNewSchema : Entry → TraceStats → Type 0
IsNewSchema e t = All (λ s. is_same_schema s.schema e ≡ false) t.schemas.items
