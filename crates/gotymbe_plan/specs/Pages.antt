-- What a page that shows traces says of them.
use Rattle.std.specs.Prelude.{ℕ, ◌==◌, if◌then◌else◌, List, [], ◌++◌, length, codes, Option, Some, None, unwrap_or}
use Rattle.std.specs.Path.{path_file_name}
use Rattle.gotymbe_plan.specs.declared.ending.Ending.{Ending}
use Rattle.gotymbe_plan.specs.Endings.{AppendsReason}

-- the last part of a file's name, or the name where it has none
abbrev pub file_title : List ℕ → List ℕ
file_title name = unwrap_or (path_file_name name) name

-- the title by the first file, if there is one
abbrev pub first_title : Option (List ℕ) → List ℕ
first_title (Some name) = file_title name
first_title None = []

-- the title that is given, else that by the first file
abbrev pub title_for : Option (List ℕ) → Option (List ℕ) → List ℕ
title_for (Some title) first = title
title_for None first = first_title first

-- what stands between what is said of two files
abbrev pub between_ends : List ℕ → List ℕ
between_ends said = if length said == 0 then [] else codes "; "

-- what stands before the reason, after what is said of the files before it
abbrev pub end_start : List ℕ → List ℕ → List ℕ
end_start said name = between_ends said ++ (name ++ codes ": ")

-- what is said of all files, if anything is
abbrev pub ends_said : List ℕ → Option (List ℕ)
ends_said said = if length said == 0 then None else Some said

-- a file and why its reading ended
abbrev pub AddsEnd : List ℕ → Ending → List ℕ → List ℕ → Type 0
AddsEnd name ending old new = AppendsReason ending (old ++ end_start old name) new
