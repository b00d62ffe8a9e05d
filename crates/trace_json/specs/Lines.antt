-- Lines of JSON.
use Rattle.std.specs.Prelude.{◌≡◌, ◌≤◌, ℕ, List, [], ◌∷◌, ◌++◌, Result, Ok, Err, Some, IsUtf8}
use Rattle.json.specs.Json.{Json, document, max_depth}
use Rattle.json.specs.Print.{print}
use Rattle.json.specs.Tree.{json_tokens, depth}

-- the end of a line, by its byte
abbrev pub line_feed : ℕ
line_feed = 10

-- the text of JSON, with no space
abbrev pub json_text : Json → List ℕ
json_text j = print (json_tokens j)

-- the text of JSON of which something is so
abbrev pub IsTextOf : (Json → Type 0) → List ℕ → Type 0
IsTextOf is text = (j : Json) × is j × (text ≡ json_text j)

-- A line of JSON of which something is so: its text, which is UTF-8, and a line feed. The text is read back as that
-- JSON, where this nests no deeper than readers go.
pub record IsLineOf (is : Json → Type 0) (line : List ℕ) : Type 0 where
  pub json : Json
  pub is_so : is json
  pub text : line ≡ json_text json ++ line_feed ∷ []
  pub utf8 : IsUtf8 (json_text json)
  pub reads_back : depth json ≤ max_depth → document (json_text json) ≡ Some json

-- such a line was appended; or a growth was refused, and the bytes are as before
abbrev pub AppendsLine : {E : Type 0} → (Json → Type 0) → List ℕ → List ℕ → Result (Unit {0}) E → Type 0
AppendsLine is old new (Ok u) = (line : List ℕ) × IsLineOf is line × (new ≡ old ++ line)
AppendsLine is old new (Err e) = new ≡ old
