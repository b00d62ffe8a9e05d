-- For private contracts: JSON that is put token by token, whole or sent as it grows.
use Rattle.std.specs.Prelude.{◌≡◌, List, ◌++◌, Result, Ok, Err}
use Rattle.std.specs.List.{flat_map}
use Rattle.std.specs.declared.alloc.AllocError.{AllocError}
use Rattle.json.specs.Json.{Json}
use Rattle.json.specs.Token.{Token, begin_object, end_object, begin_array, end_array, key}
use Rattle.json.specs.Tree.{json_tokens}
use Rattle.json.specs.Written.{Written}
use Rattle.trace_json.specs.declared.growing.Mark.{Mark}
use Rattle.trace_json.specs.declared.growing.Mark.TheVariants.{BeginObject, EndObject, BeginArray, EndArray, Key}

-- the token of a mark
abbrev pub mark_token : Mark → Token
mark_token BeginObject = begin_object
mark_token EndObject = end_object
mark_token BeginArray = begin_array
mark_token EndArray = end_array
mark_token (Key name) = key name.now

-- these tokens were put; or why not
abbrev pub PutsBy : {S F : Type 0} → (S → List Token → S → Type 0) → (S → F → S → Type 0) → List Token → S → S
    → Result (Unit {0}) F → Type 0
PutsBy grows fails tokens old new (Ok u) = grows old tokens new
PutsBy grows fails tokens old new (Err e) = fails old e new

-- JSON of which something is so was put
pub record GrowsOne {S : Type 0} (grows : S → List Token → S → Type 0) (is : Json → Type 0) (old new : S) : Type 0 where
  pub json : Json
  pub is_so : is json
  pub grown : grows old (json_tokens json) new

abbrev pub PutsOneBy : {S F : Type 0} → (S → List Token → S → Type 0) → (S → F → S → Type 0) → (Json → Type 0) → S → S
    → Result (Unit {0}) F → Type 0
PutsOneBy grows fails is old new (Ok u) = GrowsOne grows is old new
PutsOneBy grows fails is old new (Err e) = fails old e new

-- several things were put, by the tokens of each
pub record GrowsAll {S A : Type 0} (grows : S → List Token → S → Type 0) (each : A → List Token)
    (are : List A → Type 0) (old new : S) : Type 0 where
  pub all : List A
  pub are_so : are all
  pub grown : grows old (flat_map each all) new

abbrev pub PutsAllBy : {S A F : Type 0} → (S → List Token → S → Type 0) → (S → F → S → Type 0) → (A → List Token)
    → (List A → Type 0) → S → S → Result (Unit {0}) F → Type 0
PutsAllBy grows fails each are old new (Ok u) = GrowsAll grows each are old new
PutsAllBy grows fails each are old new (Err e) = fails old e new

-- ---- a writer that keeps all

-- tokens come after those that it has, and what stood before them stays
abbrev pub WriterGrows : Written → List Token → Written → Type 0
WriterGrows old tokens new = (new.tokens ≡ old.tokens ++ tokens) × (new.before ≡ old.before)

abbrev pub WriterRefuses : Written → AllocError → Written → Type 0
WriterRefuses old e new = new.before ≡ old.before
