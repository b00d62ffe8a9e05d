-- What a viewer makes of entries.
use Rattle.std.specs.Prelude.{ℕ, zero, suc, Bool, true, false, nat_eq, List, [], ◌∷◌, ◌++◌, Option, Some, None, fold}
use Rattle.std.specs.Prelude.{if◌then◌else◌}
use Rattle.trace_chrome.specs.Entries.{Told, Entry, names, begins, ends, is_cut, takes, happens, counts}

-- what an entry tells of an event
abbrev pub told_in : Entry → List Told
told_in (names track at name) = []
told_in (begins track at name told) = told ∷ []
told_in (ends track at told) = told ∷ []
told_in (is_cut track at) = []
told_in (takes track at n name told) = told ∷ []
told_in (happens track at name told) = told ∷ []
told_in (counts at c shown) = []

-- so many slices are open, and one of them ends where it is on the track; where none is open there is no end
abbrev pub closed_by : Bool → ℕ → Option ℕ
closed_by true zero = None
closed_by true (suc n) = Some n
closed_by false n = Some n

-- how many slices are open on a track after an entry, of those that were
abbrev pub open_by : ℕ → ℕ → Entry → Option ℕ
open_by k n (names track at name) = Some n
open_by k n (begins track at name told) = Some (if nat_eq track k then suc n else n)
open_by k n (ends track at told) = closed_by (nat_eq track k) n
open_by k n (is_cut track at) = closed_by (nat_eq track k) n
open_by k n (takes track at m name told) = Some n
open_by k n (happens track at name told) = Some n
open_by k n (counts at c shown) = Some n

-- the same, unless an end stood before where none was open
abbrev pub open_after : ℕ → Option ℕ → Entry → Option ℕ
open_after k (Some n) e = open_by k n e
open_after k None e = None

-- how many slices are open on a track after entries, of so many before them
abbrev pub open_on : ℕ → Option ℕ → List Entry → Option ℕ
open_on k start es = fold (open_after k) start es
