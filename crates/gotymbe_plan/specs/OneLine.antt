-- What is told in one line.
use Rattle.std.specs.Prelude.{◌≡◌, ℕ, true, List, ◌++◌, codes, nat_le}
use Rattle.std.specs.List.{list_all}

-- a text without control characters of ASCII, and so without line feeds
abbrev pub IsShown : List ℕ → Type 0
IsShown text = list_all (nat_le 32) text ≡ true

-- one line was appended: such a text, and the line feed that ends it
abbrev pub AddsLine : List ℕ → List ℕ → Type 0
AddsLine old new = (text : List ℕ) × IsShown text × (new ≡ old ++ (text ++ codes "\n"))
