-- For private contracts: how the object of a table begins.
use Rattle.std.specs.Prelude.{ℕ, List, [], ◌∷◌, codes}
use Rattle.std.specs.Fmt.{decimal}
use Rattle.json.specs.Token.{Token, begin_object, key, string, number}

-- up to the names of the fields
abbrev pub manifest_tokens : List ℕ → List ℕ → ℕ → List Token
manifest_tokens table schema rows =
    begin_object ∷ key (codes "table") ∷ string table ∷ key (codes "schema") ∷ string schema ∷ key (codes "rows")
    ∷ number (decimal rows) ∷ key (codes "fields") ∷ []
