-- Counters, and what their steps add up to.
use Rattle.std.specs.Prelude.{◌≡◌, ◌+ℤ◌, ◌&&◌, ◌-◌, ◌^◌, ℕ, zero, suc, ℤ, pos, Bool, true, false, List, [], ◌∷◌}
use Rattle.std.specs.Prelude.{◌++◌, Option, Some, None, position, length, nat_eq, nat_lt, bytes_eq, min, slice_set}
use Rattle.std.specs.Prelude.{option_map, if◌then◌else◌, get_or, from_bits}
use Rattle.std.specs.Int.{w64, saturate_signed, int_max}
use Rattle.std.specs.Option.{unwrap_or}
use Rattle.std.specs.Float.{float_is_finite}
use Rattle.std.specs.Float.Ieee.{binary64}
use Rattle.std.specs.Fmt.{signed_decimal}
use Rattle.std.specs.List.{slice_get}
use Rattle.trace_values.specs.Values.{Value, integer, number, float}
use Rattle.trace_wire.specs.Schemas.{Field, Entry as SchemaEntry}
use Rattle.trace_wire.specs.Runs.{Pools}
use Rattle.dial9_trace_format.specs.ShownEvents.{ShownEvent}
use Rattle.trace_roles.specs.Roles.{of_schema}
use Rattle.trace_roles.specs.Units.{counter_of}
use Rattle.trace_roles.specs.declared.units.CounterKind.{CounterKind}
use Rattle.trace_roles.specs.declared.units.CounterKind.TheVariants as kinds
use Rattle.trace_json.specs.EventJson.{IsValueJson}
use Rattle.trace_json.specs.Lines.{IsTextOf}
use Rattle.trace_chrome.specs.Entries.{Counter, Entry, counts}

-- ---- what a value counts as

-- a value is shown as it is, is a step that is added, or shows nothing
pub data Reading : Type 0 where
  shows : Value → Reading
  adds : ℤ → Reading
  nothing : Reading

-- the value is a number that JSON has
abbrev pub is_number : Value → Bool
is_number (number n) = true
is_number (integer z) = true
is_number (float bits) = float_is_finite (from_bits binary64 bits)
is_number v = false

-- a gauge shows each number
abbrev pub shown : Value → Reading
shown v = if is_number v then shows v else nothing

-- a whole number of 64 bits with a sign: the greatest of these where it is greater
abbrev pub whole_of : Value → Option ℤ
whole_of (number n) = Some (pos (min n (2 ^ 63 - 1)))
whole_of (integer z) = Some z
whole_of v = None

-- a step up: 0 where it is below that
abbrev pub step_up : ℤ → ℤ
step_up z = int_max z (pos 0)

-- a step that is there is added
abbrev pub added : Option ℤ → Reading
added (Some z) = adds z
added None = nothing

-- what a number counts as in a counter of a kind
abbrev pub reading_by : CounterKind → Value → Reading
reading_by kinds.Gauge v = shown v
reading_by kinds.Counter v = added (option_map step_up (whole_of v))
reading_by kinds.UpDownCounter v = added (whole_of v)

abbrev pub reading_in : Option CounterKind → Option Value → Reading
reading_in (Some kind) (Some v) = reading_by kind v
reading_in (Some kind) None = nothing
reading_in None v = nothing

-- what kind of counter the field at an index is
abbrev pub kind_at : SchemaEntry → ℕ → Option CounterKind
kind_at entry index = if nat_lt index of_schema then counter_of entry index else None

-- what the value at an index counts as
abbrev pub reading_of : ShownEvent → ℕ → Reading
reading_of e index = reading_in (kind_at e.entry index) (slice_get e.values index)

-- ---- sums

-- the sum of a counter
pub record Sum : Type 0 where
  pub counter : Counter
  pub total : ℤ

-- a sum is that of a counter
abbrev pub is_sum_of : Counter → Sum → Bool
is_sum_of c s =
    nat_eq s.counter.track c.track && (bytes_eq s.counter.schema c.schema && bytes_eq s.counter.field c.field)

-- what stands where no sum is
abbrev pub no_sum : Sum
no_sum = record { counter = record { track = 0; schema = []; field = [] }; total = pos 0 }

-- the sum of a number
abbrev pub sum_at : List Sum → ℕ → Sum
sum_at sums i = get_or sums i no_sum

-- where the sum of a counter stands
abbrev pub place_of : Counter → List Sum → Option ℕ
place_of c sums = position (is_sum_of c) sums

-- the number of the sum of a counter: where it stands, and else the next one
abbrev pub number_of : Counter → List Sum → ℕ
number_of c sums = unwrap_or (place_of c sums) (length sums)

-- the sums with that of a counter, by where it stands
abbrev pub with_counter_by : Option ℕ → Counter → List Sum → List Sum
with_counter_by (Some i) c sums = sums
with_counter_by None c sums = sums ++ record { counter = c; total = pos 0 } ∷ []

-- the sums with that of a counter, which is put in last, of 0, where it is new
abbrev pub with_counter : Counter → List Sum → List Sum
with_counter c sums = with_counter_by (place_of c sums) c sums

-- a total after a step: their sum, and where that is too great or too small for 64 bits with a sign what is next to it
abbrev pub total_after : ℤ → ℤ → ℤ
total_after total step = saturate_signed w64 (total +ℤ step)

-- the total of a counter after a step
abbrev pub total_of : Counter → ℤ → List Sum → ℤ
total_of c step sums = total_after (sum_at (with_counter c sums) (number_of c sums)).total step

-- a sum after a step
abbrev pub stepped : ℤ → Sum → Sum
stepped step s = record { counter = s.counter; total = total_after s.total step }

-- the sums after a step of a counter
abbrev pub sums_after : Counter → ℤ → List Sum → List Sum
sums_after c step sums =
    slice_set (with_counter c sums) (number_of c sums) (stepped step (sum_at (with_counter c sums) (number_of c sums)))

-- ---- the counters of an event

-- the name of a field, where there is one
abbrev pub name_in : Option Field → List ℕ
name_in (Some f) = f.name
name_in None = []

-- the counter of the field at an index of a schema on a track
abbrev pub counter_of_field : SchemaEntry → ℕ → ℕ → Counter
counter_of_field entry track index =
    record { track = track; schema = entry.name; field = name_in (slice_get entry.fields index) }

-- the same of an event's schema
abbrev pub counter_at : ShownEvent → ℕ → ℕ → Counter
counter_at e track index = counter_of_field e.entry track index

-- the sums of a counter after what its value counts as
abbrev pub sums_by : Reading → Counter → List Sum → List Sum
sums_by (shows v) c sums = sums
sums_by (adds step) c sums = sums_after c step sums
sums_by nothing c sums = sums

-- what a counter shows of what its value counts as: the number, or the total with it
abbrev pub IsShownBy : Pools → Reading → Counter → List Sum → Option (List ℕ) → Type 0
IsShownBy p (shows v) c sums o = (text : List ℕ) × IsTextOf (IsValueJson p v) text × (o ≡ Some text)
IsShownBy p (adds step) c sums o = o ≡ Some (signed_decimal (total_of c step sums))
IsShownBy p nothing c sums o = o ≡ None

-- what the counter of the field at an index shows
abbrev pub IsShownAt : ShownEvent → ℕ → ℕ → List Sum → Option (List ℕ) → Type 0
IsShownAt e track index sums o = IsShownBy e.pools (reading_of e index) (counter_at e track index) sums o

-- the entry of a counter that shows something
abbrev pub count_entries : ℕ → Counter → Option (List ℕ) → List Entry
count_entries at c (Some text) = counts at c text ∷ []
count_entries at c None = []

-- the sums after the first so many values of an event on a track
abbrev pub sums_of_first : ShownEvent → ℕ → List Sum → ℕ → List Sum
sums_of_first e track sums zero = sums
sums_of_first e track sums (suc n) =
    sums_by (reading_of e n) (counter_at e track n) (sums_of_first e track sums n)

-- these are the entries of the counters of the first so many values
abbrev pub AreCountsOfFirst : ShownEvent → ℕ → ℕ → List Sum → ℕ → List Entry → Type 0
AreCountsOfFirst e track at sums zero es = es ≡ []
AreCountsOfFirst e track at sums (suc n) es =
    (before : List Entry) × (o : Option (List ℕ)) × AreCountsOfFirst e track at sums n before
    × IsShownAt e track n (sums_of_first e track sums n) o
    × (es ≡ before ++ count_entries at (counter_at e track n) o)

-- those of all values, and the sums after them
abbrev pub AreCounts : ShownEvent → ℕ → ℕ → List Sum → List Entry → Type 0
AreCounts e track at sums es = AreCountsOfFirst e track at sums (length e.values) es

abbrev pub sums_of : ShownEvent → ℕ → List Sum → List Sum
sums_of e track sums = sums_of_first e track sums (length e.values)
