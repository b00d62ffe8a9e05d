-- Names of files, as they are told.
use Rattle.std.specs.Prelude.{ℕ, ◌||◌, Bool, List, ◌++◌, codes, if◌then◌else◌, nat_lt, nat_eq}
use Rattle.std.specs.List.{list_any}
use Rattle.trace_lines.specs.Lines.{quoted}

-- a byte of a control character of ASCII, a quotation mark, or the byte with which the characters from U+0080 to
-- U+00BF begin: some of these are control characters
abbrev pub is_odd : ℕ → Bool
is_odd b = nat_lt b 32 || (nat_eq b 34 || (nat_eq b 127 || nat_eq b 194))

-- a name as it is told: in quotes where such a byte stands in it, else as it is
abbrev pub told_name : List ℕ → List ℕ
told_name name = if list_any is_odd name then quoted name else name

-- what stands before a line of a dump of several files: the name of its file
abbrev pub file_word : List ℕ → List ℕ
file_word name = codes "file " ++ quoted name ++ codes " "
