-- What is written by a writer of JSON.
use Rattle.std.specs.Prelude.{◌≡◌, List, ◌++◌, OnOk, Result}
use Rattle.json.specs.Json.{Json}
use Rattle.json.specs.Token.{Token}
use Rattle.json.specs.Tree.{json_tokens}
use Rattle.json.specs.Written.{Written}

-- JSON of which something is so stands after the tokens that stood there
pub record Stands (is : Json → Type 0) (old new : List Token) : Type 0 where
  pub json : Json
  pub is_so : is json
  pub tokens : new ≡ old ++ json_tokens json

-- JSON of which this is so was written; or a growth was refused
abbrev pub PutsOne : {E : Type 0} → (Json → Type 0) → Written → Written → Result (Unit {0}) E → Type 0
PutsOne is old new result = OnOk result (Stands is old.tokens new.tokens)
