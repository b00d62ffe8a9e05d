-- What is kept of the events of a schema.
use Rattle.std.specs.Prelude.{◌≡◌, ◌<◌, ℕ, List, length, get_or, take, drop, map as list_map}
use Rattle.std.specs.List.{flat_map}
use Rattle.trace_values.specs.Values.{Value}
use Rattle.dial9_trace_format.specs.Resolving.{in_full}
use Rattle.dial9_trace_format.specs.ShownEvents.{ShownEvent}
use Rattle.trace_stats.specs.Summaries.{IsSummaryOf}
use Rattle.trace_stats.specs.Fields.{IsFieldOf}
use Rattle.trace_stats.specs.declared.field.FieldStats.{FieldStats}
use Rattle.trace_stats.specs.declared.schema.SchemaStats.{SchemaStats}

-- an event, and how many bytes it takes
pub record Counted : Type 0 where
  pub event : ShownEvent
  pub bytes : ℕ

abbrev pub counted_event : ShownEvent → ℕ → Counted
counted_event e n = record { event = e; bytes = n }

-- the value of an index of an event, with what the pools hold in place of ids; none where it has no such value
abbrev pub full_value : ℕ → ShownEvent → List Value
full_value i e = list_map (in_full e.pools) (take 1 (drop i e.values))

-- the values of an index of each event
abbrev pub column : ℕ → List Counted → List Value
column i es = flat_map (λ c. full_value i c.event) es

-- so many fields, of each what is kept of the values of its index
pub record AreFieldsOf (n : ℕ) (es : List Counted) (fs : List FieldStats) : Type 0 where
  pub count : length fs ≡ n
  pub columns : (i : ℕ) (d : FieldStats) → i < n → IsFieldOf (column i es) (get_or fs i d)

-- the summaries of the events' times and of their bytes, and what is kept of each field
pub record IsSchemaOf (es : List Counted) (s : SchemaStats) : Type 0 where
  pub times : IsSummaryOf (list_map (λ c. c.event.time) es) s.times
  pub bytes : IsSummaryOf (list_map (λ c. c.bytes) es) s.bytes
  pub fields : AreFieldsOf (length s.schema.fields) es s.fields.items
