-- What the stacks of events add up to.
use Rattle.std.specs.Prelude.{◌≡◌, ◌≤◌, ◌+◌, ◌^◌, ℕ, ℤ, pos, negsuc, List, Option, Some, None, position, bytes_eq}
use Rattle.std.specs.Prelude.{option_and_then, option_map, ◌≢◌}
use Rattle.std.specs.BTreeMap.{get_by_text}
use Rattle.std.specs.List.{slice_get, sum_by}
use Rattle.trace_values.specs.Values.{Value, integer, number}
use Rattle.trace_wire.specs.Schemas.{Field}
use Rattle.dial9_trace_format.specs.ShownEvents.{ShownEvent}
use Rattle.trace_folded.specs.Stacks.{first_stack, folded_text}
use Rattle.trace_folded.specs.Tallies.{count_of, if_same}
use Rattle.trace_folded.specs.declared.tally.FoldedStacks.{FoldedStacks}

-- a number that is not below 0
abbrev pub natural_in : ℤ → Option ℕ
natural_in (pos n) = Some n
natural_in (negsuc n) = None

-- the number from 0 on that a value is
abbrev pub natural_of : Value → Option ℕ
natural_of (number n) = Some n
natural_of (integer z) = natural_in z
natural_of v = None

-- the index of the first field of a name
abbrev pub place_of : List ℕ → List Field → Option ℕ
place_of name fields = position (λ f. bytes_eq f.name name) fields

-- the value of the first field of a name
abbrev pub value_named : List ℕ → ShownEvent → Option Value
value_named name e = option_and_then (slice_get e.values) (place_of name e.entry.fields)

-- how much an event counts: one, or the number of the first field of a name
abbrev pub amount_of : Option (List ℕ) → ShownEvent → Option ℕ
amount_of None e = Some 1
amount_of (Some name) e = option_and_then natural_of (value_named name e)

-- so much for the text of a stack, where there are both
abbrev pub part_for : Option (List ℕ) → Option ℕ → List ℕ → ℕ
part_for (Some xs) (Some n) text = if_same (folded_text xs) text n
part_for stack amount text = 0

-- what an event adds to the number of a text
abbrev pub part_of : Option (List ℕ) → ShownEvent → List ℕ → ℕ
part_of by e text = part_for (first_stack e.pools.stacks e.values) (amount_of by e) text

-- the number of each text is what these events add up to
abbrev pub AreCountsOf : Option (List ℕ) → List ShownEvent → FoldedStacks → Type 0
AreCountsOf by es s = (text : List ℕ) → count_of s.counts text ≡ sum_by (λ e. part_of by e text) es

-- the text of an event's stack, if it has one
abbrev pub stack_text : ShownEvent → Option (List ℕ)
stack_text e = option_map folded_text (first_stack e.pools.stacks e.values)

-- nothing was put in but under that text
abbrev pub PutsOnlyStackOf : ShownEvent → FoldedStacks → FoldedStacks → Type 0
PutsOnlyStackOf e old new =
    (other : List ℕ) → stack_text e ≢ Some other → get_by_text new.counts other ≡ get_by_text old.counts other

-- with this event the number of its stack would pass 2 ^ 64 - 1
abbrev pub IsTooMuch : Option (List ℕ) → ShownEvent → FoldedStacks → Type 0
IsTooMuch by e s =
    (xs : List ℕ) × (n : ℕ) × (first_stack e.pools.stacks e.values ≡ Some xs) × (amount_of by e ≡ Some n)
    × (2 ^ 64 ≤ count_of s.counts (folded_text xs) + n)
