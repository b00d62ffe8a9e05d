-- The names of columns.
use Rattle.std.specs.Prelude.{ℕ, ◌+◌, ◌||◌, Bool, List, [], ◌∷◌, ◌++◌, length, map, take, get_or, codes, if◌then◌else◌}
use Rattle.std.specs.Prelude.{nat_lt, nat_eq, bytes_eq}
use Rattle.std.specs.Char.{to_ascii_lowercase}
use Rattle.std.specs.Fmt.{decimal}
use Rattle.std.specs.List.{list_any, range_with_len}
use Rattle.trace_wire.specs.Schemas.{Field}

-- the name of the column of the times
abbrev pub time_name : List ℕ
time_name = codes "timestamp_ns"

-- the mark that stands before the number of a field
abbrev pub mark : ℕ
mark = 35

-- the most fields of a schema whose columns have the names of the fields alone
abbrev pub most_named : ℕ
most_named = 1000

-- equal apart from the case of ASCII letters
abbrev pub same_name : List ℕ → List ℕ → Bool
same_name a b = bytes_eq (map to_ascii_lowercase a) (map to_ascii_lowercase b)

-- a field has such a name
abbrev pub is_among : List Field → List ℕ → Bool
is_among fields name = list_any (λ f. same_name f.name name) fields

-- a character stands in it that has no place in a column's name: a control character, a quotation mark, the mark of
-- numbers
abbrev pub has_unfit : List ℕ → Bool
has_unfit name = list_any (λ b. nat_lt b 32 || (nat_eq b 34 || nat_eq b mark)) name

-- an empty name is unfit too
abbrev pub is_unfit : List ℕ → Bool
is_unfit name = nat_eq (length name) 0 || has_unfit name

-- the name of the field at a place
abbrev pub name_at : List Field → ℕ → List ℕ
name_at fields place = get_or (map (λ f. f.name) fields) place []

-- whether a name takes the number of its field, by how many fields there are and those before it
abbrev pub takes_number : ℕ → List Field → List ℕ → Bool
takes_number count before name =
    nat_lt most_named count || (same_name name time_name || (is_unfit name || is_among before name))

-- a name with the number of its field, the first being 1; a name that is unfit is left out
abbrev pub numbered : List ℕ → ℕ → List ℕ
numbered name place = (if is_unfit name then [] else name) ++ mark ∷ decimal (place + 1)

-- the name of the column of the field at a place
abbrev pub column_name : List Field → ℕ → List ℕ
column_name fields place =
    let name = name_at fields place in
    if takes_number (length fields) (take place fields) name then numbered name place else name

-- the names of the columns of a schema: that of the times, and one for each field
abbrev pub column_names : List Field → List (List ℕ)
column_names fields = time_name ∷ map (column_name fields) (range_with_len 0 (length fields))
