-- The files of which a page shows events, and their clocks.
use Rattle.std.specs.Prelude.{ℕ, ◌+◌, ℤ, List, [], ◌∷◌, ◌++◌, Option, Some, None, length}
use Rattle.std.specs.Fmt.{signed_decimal}
use Rattle.std.specs.List.{flat_map}
use Rattle.json.specs.Json.{Json, null, string}
use Rattle.trace_json.specs.EventJson.{list_json}
use Rattle.trace_page.specs.Counting.{PageEvent}
use Rattle.trace_page.specs.PageValues.{index_json}
use Rattle.trace_page.specs.declared.clocks.FileClock.{FileClock}

-- the events of a file that the page shows, and the nanoseconds since 1970 at the zero of its clock, if these are known
pub record PageFile : Type 0 where
  pub events : List PageEvent
  pub zero : Option ℤ

-- the events of files, those of the first and then those of the others
abbrev pub events_of : List PageFile → List PageEvent
events_of fs = flat_map (λ f. f.events) fs

-- files, and after them one of these events, if there are any, whose clock is not known
abbrev pub with_rest : List PageFile → List PageEvent → List PageFile
with_rest fs [] = fs
with_rest fs (e ∷ es) = fs ++ record { events = e ∷ es; zero = None } ∷ []

-- for each file after so many events, how many events stand before its own, and the zero of its clock
abbrev pub clocks_of : ℕ → List PageFile → List FileClock
clocks_of before [] = []
clocks_of before (f ∷ fs) = record { first = before; zero = f.zero } ∷ clocks_of (before + length f.events) fs

-- the nanoseconds at a zero as a string, or null where they are not known
abbrev pub zero_json : Option ℤ → Json
zero_json (Some z) = string (signed_decimal z)
zero_json None = null

-- the clock of a file: the index of its first event, and the zero
abbrev pub clock_json : FileClock → Json
clock_json c = list_json (index_json c.first ∷ zero_json c.zero ∷ [])
