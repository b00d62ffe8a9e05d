-- What an event is called, where it lies, and what it is.
use Rattle.std.specs.Prelude.{◌+◌, ◌*◌, ◌-◌, ◌^◌, ◌||◌, ℕ, ℤ, pos, negsuc, Bool, true, false, List, Option, Some, None}
use Rattle.std.specs.Prelude.{is_some, not, codes, option_and_then, if◌then◌else◌, nat_lt, from_bits}
use Rattle.std.specs.FinMap as map
use Rattle.std.specs.Ordering.{nat_cmp}
use Rattle.std.specs.Float.{float_is_finite, float_round, float_to_unsigned}
use Rattle.std.specs.Float.Ieee as Ieee
use Rattle.std.specs.Float.Ieee.{Float, binary64}
use Rattle.std.specs.Fmt.{decimal, signed_decimal}
use Rattle.std.specs.Int.{w64}
use Rattle.std.specs.List.{slice_get}
use Rattle.std.specs.Option.{unwrap_or}
use Rattle.trace_values.specs.Values.{Value, integer, number, float, text, pooled_text}
use Rattle.trace_wire.specs.Schemas.{Entry}
use Rattle.dial9_trace_format.specs.ShownEvents.{ShownEvent}
use Rattle.trace_roles.specs.Roles.{of_schema, note_of, field_with_role, track_of}
use Rattle.trace_roles.specs.Units.{nanoseconds_in}
use Rattle.trace_chrome.specs.Slices.{What, begins, ends, takes, happens}

-- ---- texts

-- the text that a value is: a whole number's digits, or a text, also by its id
abbrev pub text_of : map.FinMap nat_cmp (List ℕ) → Value → Option (List ℕ)
text_of strings (number n) = Some (decimal n)
text_of strings (integer z) = Some (signed_decimal z)
text_of strings (text s) = Some s
text_of strings (pooled_text id) = map.get strings id
text_of strings v = None

-- the value of a field, if there is such a field
abbrev pub value_at : ShownEvent → Option ℕ → Option Value
value_at e index = option_and_then (slice_get e.values) index

-- the first of the two groups that is there, else the name
abbrev pub home_by : Option (List ℕ) → Option (List ℕ) → List ℕ → List ℕ
home_by (Some group) other name = group
home_by None (Some group) name = group
home_by None None name = name

-- the group whose slices events begin or end, else the name of the schema
abbrev pub home : Entry → List ℕ
home entry = home_by (note_of entry of_schema (codes "begin")) (note_of entry of_schema (codes "end")) entry.name

-- the text of a field, and where it has none that of the schema
abbrev pub label : ShownEvent → Option ℕ → List ℕ
label e index = unwrap_or (option_and_then (text_of e.pools.strings) (value_at e index)) (home e.entry)

-- the name of the track of an event, and its own name
abbrev pub track_name : ShownEvent → List ℕ
track_name e = label e (track_of e.entry)

abbrev pub event_name : ShownEvent → List ℕ
event_name e = label e (field_with_role e.entry (codes "name"))

-- ---- what an event is

-- an id under which the pool holds nothing
abbrev pub is_unknown : map.FinMap nat_cmp (List ℕ) → Value → Bool
is_unknown strings (pooled_text id) = not (is_some (map.get strings id))
is_unknown strings v = false

-- a field has such an id
abbrev pub is_unknown_by : map.FinMap nat_cmp (List ℕ) → Option Value → Bool
is_unknown_by strings (Some v) = is_unknown strings v
is_unknown_by strings None = false

-- the field at an index has such an id
abbrev pub is_unknown_at : ShownEvent → Option ℕ → Bool
is_unknown_at e index = is_unknown_by e.pools.strings (value_at e index)

-- nobody knows on which track the event lies, or what it is called
abbrev pub is_lost : ShownEvent → Bool
is_lost e = is_unknown_at e (track_of e.entry) || is_unknown_at e (field_with_role e.entry (codes "name"))

-- a number, where it is not below 0, and else 0
abbrev pub natural_in : ℤ → ℕ
natural_in (pos n) = n
natural_in (negsuc n) = 0

-- the unit that a field is annotated with
abbrev pub unit_of : Entry → ℕ → Option (List ℕ)
unit_of entry index = note_of entry index (codes "unit")

-- how many nanoseconds one of a unit is, and 1 where it is no unit of time
abbrev pub unit_by : Option (List ℕ) → ℕ
unit_by (Some unit) = unwrap_or (nanoseconds_in unit) 1
unit_by None = 1

-- so many nanoseconds, of 64 bits
abbrev pub capped : ℕ → ℕ
capped n = if nat_lt n (2 ^ 64) then n else 2 ^ 64 - 1

-- a float times a number, as floats are multiplied
abbrev pub times : ℕ → Float → Float
times n x = Ieee.mul binary64 x (Ieee.of_int binary64 (pos n))

-- so many of a unit, in whole nanoseconds, half of one rounded up; 0 of a float below 0, an infinite one and no number
abbrev pub float_length : ℕ → Float → ℕ
float_length unit x =
    if float_is_finite x then float_to_unsigned w64 (float_round binary64 (times unit x)) else 0

-- so many of a unit, in nanoseconds; 0 of what is no number from 0 on
abbrev pub length_in : ℕ → Value → ℕ
length_in unit (number n) = capped (n * unit)
length_in unit (integer z) = capped (natural_in z * unit)
length_in unit (float bits) = float_length unit (from_bits binary64 bits)
length_in unit v = 0

-- those of a field, and 0 where there is none
abbrev pub length_of : ℕ → Option Value → ℕ
length_of unit (Some v) = length_in unit v
length_of unit None = 0

-- how long an event took by a field, in nanoseconds
abbrev pub length_by : ShownEvent → ℕ → ℕ
length_by e index = length_of (unit_by (unit_of e.entry index)) (value_at e (Some index))

-- what an event is, by the group that it begins, the one that it ends, and the field of its length
abbrev pub what_by : ShownEvent → Option (List ℕ) → Option (List ℕ) → Option ℕ → What
what_by e (Some group) other index = begins group
what_by e None (Some group) index = ends group
what_by e None None (Some index) = takes (length_by e index)
what_by e None None None = happens

-- what an event is, by its roles; one whose track or name nobody knows happens
abbrev pub what_of : ShownEvent → What
what_of e =
    if is_lost e then happens
    else what_by e (note_of e.entry of_schema (codes "begin")) (note_of e.entry of_schema (codes "end"))
    (field_with_role e.entry (codes "duration"))

-- when an event ends that begins at a time, by what it is: a slice after its length, at the greatest time at most
abbrev pub end_by : ℕ → What → ℕ
end_by at (begins group) = at
end_by at (ends group) = at
end_by at (takes n) = capped (at + n)
end_by at happens = at

abbrev pub end_time : ShownEvent → ℕ
end_time e = end_by e.time (what_of e)
