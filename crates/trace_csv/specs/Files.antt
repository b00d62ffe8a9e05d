-- The names of files and tables.
use Rattle.std.specs.Prelude.{◌≡◌, ℕ, ◌||◌, Bool, true, List, [], ◌∷◌, ◌++◌, take, filter, nat_eq}
use Rattle.std.specs.Char.{is_ascii_alphanumeric}
use Rattle.std.specs.Fmt.{decimal}
use Rattle.std.specs.List.{All}

-- characters by their bytes
abbrev pub dash : ℕ
dash = 45

abbrev pub underscore : ℕ
underscore = 95

-- a character that stays in the name of a table: a letter, a digit, a dash or an underscore
abbrev pub is_kept : ℕ → Bool
is_kept b = is_ascii_alphanumeric b || (nat_eq b dash || nat_eq b underscore)

-- a name with no other characters: no path, and no name that stands for a folder
abbrev pub IsPlainName : List ℕ → Type 0
IsPlainName text = All (λ b. is_kept b ≡ true) text

-- what stays of the name of a schema
abbrev pub kept_of : List ℕ → List ℕ
kept_of name = take 64 (filter is_kept name)

-- the name of the table of a schema with a number
abbrev pub table_name : ℕ → List ℕ → List ℕ
table_name number name = decimal number ++ dash ∷ kept_of name
