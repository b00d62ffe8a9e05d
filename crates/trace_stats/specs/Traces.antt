-- What is kept of the events of a trace.
use Rattle.std.specs.Prelude.{◌≡◌, Bool, if◌then◌else◌, List, [], ◌∷◌, ◌++◌, map, filter, fold, All}
use Rattle.std.specs.List.{list_any}
use Rattle.trace_wire.specs.Schemas.{Entry}
use Rattle.trace_events.specs.Schemas.{bare, is_same_schema}
use Rattle.trace_stats.specs.Events.{Counted, IsSchemaOf}
use Rattle.trace_stats.specs.declared.trace.TraceStats.{TraceStats}

-- an event is of this schema
abbrev pub is_of : Entry → Counted → Bool
is_of e c = is_same_schema e c.event.entry

-- the events of a schema, in order
abbrev pub of_schema : Entry → List Counted → List Counted
of_schema e es = filter (is_of e) es

-- schemas, and then that of an event where it is none of them
abbrev pub with_schema : List Entry → Counted → List Entry
with_schema schemas c =
    if list_any (λ e. is_of e c) schemas then schemas else schemas ++ bare c.event.entry ∷ []

-- the schemas of events, each once, in the order of their first events
abbrev pub schemas_of : List Counted → List Entry
schemas_of es = fold with_schema [] es

-- the schemas of the events, and what is kept of the events of each
pub record AreStatsOf (es : List Counted) (t : TraceStats) : Type 0 where
  pub schemas : map (λ s. s.schema) t.schemas.items ≡ schemas_of es
  pub each : All (λ s. IsSchemaOf (of_schema s.schema es) s) t.schemas.items
