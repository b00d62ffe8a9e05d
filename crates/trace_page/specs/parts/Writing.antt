-- For private contracts: what is written of the data of a page, and the tables that values name.
use Rattle.std.specs.Prelude.{◌≡◌, ℕ, List, ◌++◌, Some, Result, slice_get}
use Rattle.json.specs.Json.{Json}
use Rattle.json.specs.Written.{Written}
use Rattle.trace_json.specs.EventJson.{list_json}
use Rattle.trace_json.specs.parts.Put.{PutsTokens, member_tokens}
use Rattle.trace_page.specs.PageValues.{Tables}

-- a member of an object was written: its name and its value; or a growth was refused
abbrev pub PutsMember : {E : Type 0} → List ℕ → Json → Written → Written → Result (Unit {0}) E → Type 0
PutsMember name j old new result = PutsTokens (member_tokens (name, j)) old new result

-- a list with more at its end
abbrev pub IsLonger : List (List ℕ) → List (List ℕ) → Type 0
IsLonger old new = (more : List (List ℕ)) × (new ≡ old ++ more)

-- tables with more at their ends
pub record Grows (old new : Tables) : Type 0 where
  pub strings : IsLonger old.strings new.strings
  pub stacks : IsLonger old.stacks new.stacks

-- a thing stands in a list at an index
abbrev pub StandsAt : List (List ℕ) → List ℕ → ℕ → Type 0
StandsAt xs x i = slice_get xs i ≡ Some x

-- a list of things of which this is so
abbrev pub IsListOf : (List Json → Type 0) → Json → Type 0
IsListOf are j = (js : List Json) × are js × (j ≡ list_json js)
