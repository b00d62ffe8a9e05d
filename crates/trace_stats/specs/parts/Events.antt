-- For private contracts: what is kept of the events of a schema.
use Rattle.std.specs.Prelude.{◌≡◌, ◌≢◌, ◌<◌, ◌≤◌, ℕ, List, ◌++◌, length, get_or}
use Rattle.trace_values.specs.Values.{Value}
use Rattle.dial9_trace_format.specs.ShownEvents.{ShownEvent}
use Rattle.trace_stats.specs.Summaries.{most_counted}
use Rattle.trace_stats.specs.Fields.{IsFieldOf}
use Rattle.trace_stats.specs.declared.field.FieldStats.{FieldStats}
use Rattle.trace_stats.specs.Events.{Counted, full_value, AreFieldsOf}

-- the value of an index was added, and no other field changed
pub record AddsAt (i : ℕ) (e : ShownEvent) (old new : List FieldStats) : Type 0 where
  pub here : (d : FieldStats) (vs : List Value) → IsFieldOf vs (get_or old i d) →
      IsFieldOf (vs ++ full_value i e) (get_or new i d)
  pub others : (k : ℕ) (d : FieldStats) → k ≢ i → get_or new k d ≡ get_or old k d

-- the value of each index was added
pub record AddsValues (e : ShownEvent) (old new : List FieldStats) : Type 0 where
  pub count : length new ≡ length old
  pub added : (i : ℕ) (d : FieldStats) (vs : List Value) → i < length old → IsFieldOf vs (get_or old i d) →
      IsFieldOf (vs ++ full_value i e) (get_or new i d)

-- no more values of an index can be counted
abbrev pub IsFullAt : ℕ → List FieldStats → Type 0
IsFullAt i fs = (d : FieldStats) (vs : List Value) → IsFieldOf vs (get_or fs i d) → most_counted ≤ length vs

-- no more values of some index can
abbrev pub AreFull : List FieldStats → Type 0
AreFull fs = (n : ℕ) (es : List Counted) → AreFieldsOf n es fs → most_counted ≤ length es
