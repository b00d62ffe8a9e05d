-- What holds of the entries of any events.
use Rattle.std.specs.Prelude.{◌≡◌, ℕ, List, [], ◌∷◌, ◌++◌, Some}
use Rattle.std.specs.List.{flat_map, AllByRecursion}
use Rattle.dial9_trace_format.specs.ShownEvents.{ShownEvent}
use Rattle.trace_chrome.specs.Counters.{Sum, AreCounts}
use Rattle.trace_chrome.specs.Entries.{Told, Entry}
use Rattle.trace_chrome.specs.Slices.{closings}
use Rattle.trace_chrome.specs.Steps.{entries_of, tracks_after}
use Rattle.trace_chrome.specs.Tracks.{Track}
use Rattle.trace_chrome.specs.Viewers.{told_in, open_on}

-- the entries of an event tell it once
abbrev pub IsToldOnce : Type 0
IsToldOnce = (told : Told) (e : ShownEvent) (ts : List Track) → flat_map told_in (entries_of told e ts) ≡ told ∷ []

-- an event, what is told of it, and the entries of its counters
pub record TakenEvent : Type 0 where
  pub event : ShownEvent
  pub told : Told
  pub counts : List Entry

-- the entries of its counters are such, after some sums
abbrev pub HasCounts : TakenEvent → Type 0
HasCounts x = (track at : ℕ) × (sums : List Sum) × AreCounts x.event track at sums x.counts

-- the entries of events, one after another, and the tracks after them
abbrev pub entries_over : List TakenEvent → List Track → List Entry
entries_over [] ts = []
entries_over (x ∷ xs) ts = (entries_of x.told x.event ts ++ x.counts) ++ entries_over xs (tracks_after x.event ts)

-- the tracks after events, one after another
abbrev pub tracks_over : List TakenEvent → List Track → List Track
tracks_over [] ts = ts
tracks_over (x ∷ xs) ts = tracks_over xs (tracks_after x.event ts)

-- on each track no slice ends where none is open, and at the end all have ended
abbrev pub SlicesNest : Type 0
SlicesNest =
    (xs : List TakenEvent) (at k : ℕ) → AllByRecursion HasCounts xs →
    open_on k (Some 0) (entries_over xs [] ++ closings at (tracks_over xs [])) ≡ Some 0
