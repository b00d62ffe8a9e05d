-- For private contracts: what is written of a page after the values of its events.
use Rattle.std.specs.Prelude.{◌≡◌, ℕ, List, [], ◌∷◌, ◌++◌, OnOk, Option, Result, codes, map as list_map}
use Rattle.std.specs.Fmt.{decimal}
use Rattle.std.specs.List.{AllZip}
use Rattle.json.specs.Json.{Json, string}
use Rattle.json.specs.Token.{Token, end_object, end_array}
use Rattle.json.specs.Written.{Written}
use Rattle.trace_json.specs.EventJson.{list_json}
use Rattle.trace_json.specs.parts.Put.{member_tokens}
use Rattle.trace_page.specs.PageSchemas.{text_or_null}
use Rattle.trace_page.specs.PageValues.{Tables, index_json, time_json}
use Rattle.trace_page.specs.Pages.{IsStack, start_of}

-- the end of the values, and the other columns
abbrev pub columns_end : List ℕ → List ℕ → List Token
columns_end times places =
    end_array
    ∷ (member_tokens (codes "time", list_json (list_map (time_json (start_of times)) times))
    ++ (member_tokens (codes "schema", list_json (list_map index_json places)) ++ end_object ∷ []))

-- the lists that values name
abbrev pub lists_tokens : Tables → List Json → List Token
lists_tokens t stacks =
    member_tokens (codes "stacks", list_json stacks)
    ++ member_tokens (codes "strings", list_json (list_map string t.strings))

-- they stand after the tokens that stood there
pub record StandLists (t : Tables) (old new : List Token) : Type 0 where
  pub stacks : List Json
  pub are : AllZip (IsStack t.strings) t.stacks stacks
  pub tokens : new ≡ old ++ lists_tokens t stacks

abbrev pub PutsLists : {E : Type 0} → Tables → Written → Written → Result (Unit {0}) E → Type 0
PutsLists t old new result = OnOk result (StandLists t old.tokens new.tokens)

-- the start, why reading ended, the name, and the end of the data
abbrev pub last_tokens : ℕ → List ℕ → Option (List ℕ) → List Token
last_tokens start name end =
    member_tokens (codes "start", string (decimal start))
    ++ (member_tokens (codes "end", text_or_null end)
    ++ (member_tokens (codes "name", string name) ++ end_object ∷ []))
