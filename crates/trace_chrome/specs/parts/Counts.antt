-- For private contracts: the counter of one field.
use Rattle.std.specs.Prelude.{◌≡◌, ◌++◌, ℕ, List, length, Option}
use Rattle.dial9_trace_format.specs.ShownEvents.{ShownEvent}
use Rattle.trace_chrome.specs.Entries.{Entry, entries_text}
use Rattle.trace_chrome.specs.Counters.{Sum, reading_of, counter_at, sums_by, IsShownAt, count_entries}
use Rattle.trace_chrome.specs.Counters.{AreCountsOfFirst}

-- the sums of a counter after the value at an index
abbrev pub sums_at : ShownEvent → ℕ → ℕ → List Sum → List Sum
sums_at e track index sums = sums_by (reading_of e index) (counter_at e track index) sums

-- the entry of the counter of the field at an index was appended, where it shows something
pub record CountsAt (e : ShownEvent) (track at from index : ℕ) (sums : List Sum) (old new : List ℕ) : Type 0 where
  pub shown : Option (List ℕ)
  pub is_shown : IsShownAt e track index sums shown
  pub text : new ≡ old ++ entries_text from (count_entries at (counter_at e track index) shown)

-- those of the counters of the first so many fields were appended
pub record CountsFirst (e : ShownEvent) (track at from : ℕ) (sums : List Sum) (n : ℕ) (old new : List ℕ) : Type 0 where
  pub entries : List Entry
  pub are_so : AreCountsOfFirst e track at sums n entries
  pub text : new ≡ old ++ entries_text from entries

-- those of all fields
abbrev pub CountsAll : ShownEvent → ℕ → ℕ → ℕ → List Sum → List ℕ → List ℕ → Type 0
CountsAll e track at from sums old new = CountsFirst e track at from sums (length e.values) old new
