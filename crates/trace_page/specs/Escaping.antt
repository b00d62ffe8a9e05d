-- Text of JSON as it stands in a page.
use Rattle.std.specs.Prelude.{◌≡◌, ◌≢◌, ◌≤◌, ℕ, ◌==◌, if◌then◌else◌, List, [], ◌∷◌, Some, codes, flat_map, All}
use Rattle.json.specs.Json.{Json, document, max_depth}
use Rattle.json.specs.Lex.{tokens}
use Rattle.json.specs.Token.{Token}
use Rattle.json.specs.Print.{print}
use Rattle.json.specs.Tree.{json_tokens, depth}

-- the byte of `<`
abbrev pub less_than : ℕ
less_than = 60

-- what stands for a byte: itself, and `\u003c` for `<`
abbrev pub escaped_byte : ℕ → List ℕ
escaped_byte b = if b == less_than then codes "\\u003c" else b ∷ []

abbrev pub escaped : List ℕ → List ℕ
escaped = flat_map escaped_byte

-- no byte is `<`
abbrev pub HasNoMarkup : List ℕ → Type 0
HasNoMarkup = All (λ b. b ≢ less_than)

abbrev pub EscapesMarkup : Type 0
EscapesMarkup = (text : List ℕ) → HasNoMarkup (escaped text)

-- the text of tokens with no space, which is read back as these
abbrev pub IsPrinted : List ℕ → Type 0
IsPrinted text = (ts : List Token) × (text ≡ print ts) × (tokens text ≡ ts)

-- what a writer printed of JSON is read back once it is escaped
abbrev pub EscapedReadsBack : Type 0
EscapedReadsBack =
    (j : Json) → tokens (print (json_tokens j)) ≡ json_tokens j → depth j ≤ max_depth →
    document (escaped (print (json_tokens j))) ≡ Some j
