-- Frames of stacks, each once.
use Rattle.std.specs.Prelude.{◌+◌, ◌&&◌, ℕ, zero, suc, Bool, List, [], ◌∷◌, ◌++◌, codes}
use Rattle.std.specs.Prelude.{nat_eq, if◌then◌else◌}
use Rattle.std.specs.Fmt.{decimal}
use Rattle.std.specs.List.{list_any, position_or_len}
use Rattle.json.specs.Json.{Json, string, number}
use Rattle.trace_values.specs.AddressTexts.{address_text}
use Rattle.trace_json.specs.EventJson.{object_json}

-- a frame: the number of the frame that it was called from, 0 where there is none, and its address
abbrev pub Frame : Type 0
Frame = ℕ × ℕ

-- two frames are the same
abbrev pub frame_eq : Frame → Frame → Bool
frame_eq a b = nat_eq a.0 b.0 && nat_eq a.1 b.1

-- the frames with one, which is put in last where it is new
abbrev pub with_frame : Frame → List Frame → List Frame
with_frame f fs = if list_any (frame_eq f) fs then fs else fs ++ f ∷ []

-- the number of a frame among them, from 1 on: where it stands, and else the next one
abbrev pub number_of : Frame → List Frame → ℕ
number_of f fs = position_or_len (frame_eq f) fs + 1

-- the frames after a stack, whose innermost address stands first, and the number of the frame of that; 0 where it has
-- none. Each address was called from those after it.
abbrev mutual
  pub with_stack : List ℕ → List Frame → List Frame
  with_stack [] fs = fs
  with_stack (x ∷ xs) fs = with_frame (number_of_stack xs fs, x) (with_stack xs fs)

  pub number_of_stack : List ℕ → List Frame → ℕ
  number_of_stack [] fs = 0
  number_of_stack (x ∷ xs) fs = number_of (number_of_stack xs fs, x) (with_stack xs fs)

-- ---- what a viewer is told of them

-- the number of the frame that a frame was called from, where there is one
abbrev pub parent_members : ℕ → List (List ℕ × Json)
parent_members zero = []
parent_members (suc n) = (codes "parent", number (decimal (suc n))) ∷ []

-- a frame: an object with its address as its name
abbrev pub frame_json : Frame → Json
frame_json f = object_json ((codes "name", string (address_text f.1)) ∷ parent_members f.0)

-- frames, each under its number, which go on from one
abbrev pub frame_members : ℕ → List Frame → List (List ℕ × Json)
frame_members k [] = []
frame_members k (f ∷ fs) = (decimal k, frame_json f) ∷ frame_members (k + 1) fs

abbrev pub frames_json : List Frame → Json
frames_json fs = object_json (frame_members 1 fs)
