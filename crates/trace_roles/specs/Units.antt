-- Units of fields, and kinds of counters.
use Rattle.std.specs.Prelude.{ℕ, Bool, true, false, List, Option, Some, None, if◌then◌else◌}
use Rattle.std.specs.Prelude.{codes, bytes_eq, option_and_then}
use Rattle.trace_wire.specs.Schemas.{Entry}
use Rattle.trace_roles.specs.Roles.{note_of}
use Rattle.trace_roles.specs.declared.units.CounterKind.{CounterKind}
use Rattle.trace_roles.specs.declared.units.CounterKind.TheVariants as kinds

-- the numbers of such a counter are steps, which are summed
abbrev pub is_summed : CounterKind → Bool
is_summed kinds.Gauge = false
is_summed kinds.Counter = true
is_summed kinds.UpDownCounter = true

-- the kind of counter with a name
abbrev pub counter_named : List ℕ → Option CounterKind
counter_named name =
    if bytes_eq name (codes "gauge") then Some kinds.Gauge
    else (if bytes_eq name (codes "counter") then Some kinds.Counter
    else (if bytes_eq name (codes "updown-counter") then Some kinds.UpDownCounter else None))

-- what kind of counter a field is annotated as
abbrev pub counter_of : Entry → ℕ → Option CounterKind
counter_of e index = option_and_then counter_named (note_of e index (codes "kind"))

-- how many nanoseconds one of a unit of time is
abbrev pub nanoseconds_in : List ℕ → Option ℕ
nanoseconds_in unit =
    if bytes_eq unit (codes "ns") then Some 1
    else (if bytes_eq unit (codes "us") then Some 1000
    else (if bytes_eq unit (codes "ms") then Some 1000000
    else (if bytes_eq unit (codes "s") then Some 1000000000 else None)))
