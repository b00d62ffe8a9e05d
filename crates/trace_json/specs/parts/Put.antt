-- For private contracts: what is written by a writer of JSON.
use Rattle.std.specs.Prelude.{◌≡◌, ℕ, List, [], ◌∷◌, ◌++◌, OnOk, Result, Option, None, Some, codes}
use Rattle.std.specs.Borrow.{Bor}
use Rattle.std.specs.Fmt.{decimal}
use Rattle.std.specs.List.{flat_map}
use Rattle.json.specs.Json.{Json}
use Rattle.json.specs.Token.{Token, begin_object, key, string, number}
use Rattle.json.specs.Tree.{json_tokens}
use Rattle.json.specs.Written.{Written}

-- these tokens were written; or a growth was refused
abbrev pub PutsTokens : {E : Type 0} → List Token → Written → Written → Result (Unit {0}) E → Type 0
PutsTokens tokens old new result = OnOk result (new.tokens ≡ old.tokens ++ tokens)

-- this JSON was written; or a growth was refused
abbrev pub Puts : {E : Type 0} → Json → Written → Written → Result (Unit {0}) E → Type 0
Puts j old new result = PutsTokens (json_tokens j) old new result

-- the same of several things, by the tokens of each
pub record StandAll {A : Type 0} (each : A → List Token) (are : List A → Type 0) (old new : List Token) : Type 0 where
  pub all : List A
  pub are_so : are all
  pub tokens : new ≡ old ++ flat_map each all

abbrev pub PutsAll :
    {A E : Type 0} → (A → List Token) → (List A → Type 0) → Written → Written → Result (Unit {0}) E → Type 0
PutsAll each are old new result = OnOk result (StandAll each are old.tokens new.tokens)

-- a member: its name and its value
abbrev pub member_tokens : List ℕ × Json → List Token
member_tokens m = key m.0 ∷ json_tokens m.1

-- the members of an event up to its fields
abbrev pub naming_tokens : List ℕ → ℕ → List Token
naming_tokens name time =
    key (codes "event") ∷ string name ∷ key (codes "timestamp_ns") ∷ number (decimal time) ∷ key (codes "fields") ∷ []

-- the name of a file, where one is told
abbrev pub file_tokens : Option (Bor (List ℕ)) → List Token
file_tokens None = []
file_tokens (Some name) = key (codes "file") ∷ string name.now ∷ []

-- how an event's object begins, up to its fields
abbrev pub head_tokens : Option (Bor (List ℕ)) → List ℕ → ℕ → List Token
head_tokens file name time = begin_object ∷ (file_tokens file ++ naming_tokens name time)
