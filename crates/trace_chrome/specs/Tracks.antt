-- Tracks, and the slices on them that are open.
use Rattle.std.specs.Prelude.{◌+◌, ℕ, List, [], ◌∷◌, ◌++◌, Option, Some, None, position, length, drop, get_or}
use Rattle.std.specs.Prelude.{bytes_eq}
use Rattle.std.specs.Option.{unwrap_or}

-- a track: its name, and the groups of the slices that are open on it, the innermost first
pub record Track : Type 0 where
  pub name : List ℕ
  pub slices : List (List ℕ)

-- a track without a slice
abbrev pub new_track : List ℕ → Track
new_track name = record { name = name; slices = [] }

-- what stands where no track is
abbrev pub no_track : Track
no_track = new_track []

-- the track of a number
abbrev pub track_at : List Track → ℕ → Track
track_at ts k = get_or ts k no_track

-- where the track of a name stands
abbrev pub place_of : List ℕ → List Track → Option ℕ
place_of name ts = position (λ t. bytes_eq t.name name) ts

-- the number of the track of a name: where it stands, and else the next one
abbrev pub number_of : List ℕ → List Track → ℕ
number_of name ts = unwrap_or (place_of name ts) (length ts)

-- the tracks with one of a name, by where it stands
abbrev pub with_track_by : Option ℕ → List ℕ → List Track → List Track
with_track_by (Some i) name ts = ts
with_track_by None name ts = ts ++ new_track name ∷ []

-- the tracks with one of a name, which is put in last where it is new
abbrev pub with_track : List ℕ → List Track → List Track
with_track name ts = with_track_by (place_of name ts) name ts

-- how many slices are open inside the innermost one of a group
abbrev pub inside_of : List ℕ → List (List ℕ) → Option ℕ
inside_of group slices = position (λ g. bytes_eq g group) slices

-- a slice of a group has begun
abbrev pub begun : List ℕ → Track → Track
begun group t = record { name = t.name; slices = group ∷ t.slices }

-- a slice inside which so many others are open has ended with those
abbrev pub ended_by : Option ℕ → Track → Track
ended_by (Some n) t = record { name = t.name; slices = drop (n + 1) t.slices }
ended_by None t = t

-- the innermost slice of a group has ended, and so have those inside it
abbrev pub ended : List ℕ → Track → Track
ended group t = ended_by (inside_of group t.slices) t
