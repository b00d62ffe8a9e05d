-- What an event is on its track: its entries, and the slices that are open after it.
use Rattle.std.specs.Prelude.{ℕ, List, [], ◌∷◌, ◌++◌, Option, Some, None, codes, replicate, length, ◌+◌, slice_set}
use Rattle.trace_chrome.specs.Tracks.{Track, track_at, place_of, number_of, inside_of, begun, ended}
use Rattle.trace_chrome.specs.Entries.{Told, Entry}
use Rattle.trace_chrome.specs.Entries as entries

-- it begins a slice of a group, ends one, is one of so many nanoseconds, or happens at its time
pub data What : Type 0 where
  begins : List ℕ → What
  ends : List ℕ → What
  takes : ℕ → What
  happens : What

-- the entry of a track of a number that stands somewhere or nowhere yet
abbrev pub naming_by : Option ℕ → ℕ → ℕ → List ℕ → List Entry
naming_by (Some i) track at name = []
naming_by None track at name = entries.names track at name ∷ []

-- the entry of a track that is new
abbrev pub naming : List ℕ → ℕ → List Track → List Entry
naming name at ts = naming_by (place_of name ts) (number_of name ts) at name

-- an end: it ends so many slices inside the one of its group too; where none is open it happens
abbrev pub ends_by : Option ℕ → ℕ → ℕ → List ℕ → Told → List Entry
ends_by (Some n) track at group told =
    replicate n (entries.is_cut track at) ++ entries.ends track at told ∷ []
ends_by None track at group told = entries.happens track at (codes "end " ++ group) told ∷ []

-- the entries of an event on a track, by what it is
abbrev pub own_by : What → ℕ → Track → ℕ → List ℕ → Told → List Entry
own_by (begins group) track t at name told = entries.begins track at name told ∷ []
own_by (ends group) track t at name told = ends_by (inside_of group t.slices) track at group told
own_by (takes n) track t at name told = entries.takes track at n name told ∷ []
own_by happens track t at name told = entries.happens track at name told ∷ []

-- the tracks after an event on one of them, by what it is
abbrev pub tracks_by : What → ℕ → List Track → List Track
tracks_by (begins group) k ts = slice_set ts k (begun group (track_at ts k))
tracks_by (ends group) k ts = slice_set ts k (ended group (track_at ts k))
tracks_by (takes n) k ts = ts
tracks_by happens k ts = ts

-- the ends of the slices that are open on tracks, whose numbers go on from one
abbrev pub closings_from : ℕ → ℕ → List Track → List Entry
closings_from at k [] = []
closings_from at k (t ∷ ts) = replicate (length t.slices) (entries.is_cut k at) ++ closings_from at (k + 1) ts

-- the ends of all slices that are open
abbrev pub closings : ℕ → List Track → List Entry
closings at ts = closings_from at 0 ts
