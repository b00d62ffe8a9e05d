-- What stacks add up to.
use Rattle.std.specs.Prelude.{◌≡◌, ℕ, zero, suc, ◌+◌, List, [], ◌++◌, String, if◌then◌else◌, codes, decimal}
use Rattle.std.specs.Prelude.{string_bytes, false}
use Rattle.std.specs.BTreeMap.{get_by_text, BTreeMap}
use Rattle.std.specs.Str.{bytes_eq}
use Rattle.std.specs.Option.{unwrap_or}

-- the number of a text, 0 where none is kept
abbrev pub count_of : {Y : Type 0} → BTreeMap (String Y) ℕ → List ℕ → ℕ
count_of m text = unwrap_or (get_by_text m text) 0

-- so much for one text, and nothing for another
abbrev pub if_same : List ℕ → List ℕ → ℕ → ℕ
if_same text other more = if bytes_eq text other then more else 0

-- the number of a text has become so much more, and that of each other is as it was
abbrev pub CountsMore : {Y : Type 0} → BTreeMap (String Y) ℕ → BTreeMap (String Y) ℕ → List ℕ → ℕ → Type 0
CountsMore old new text more = (other : List ℕ) → count_of new other ≡ count_of old other + if_same text other more

-- nothing else was put in: under each other text stands what stood there
abbrev pub PutsNoOther : {Y : Type 0} → BTreeMap (String Y) ℕ → BTreeMap (String Y) ℕ → List ℕ → Type 0
PutsNoOther old new text =
    (other : List ℕ) → bytes_eq text other ≡ false → get_by_text new other ≡ get_by_text old other

-- the line of a text and its number, and none of number 0
abbrev pub line_of : List ℕ → ℕ → List ℕ
line_of text zero = []
line_of text (suc n) = text ++ (codes " " ++ (decimal (suc n) ++ codes "\n"))

-- that of an entry
abbrev pub count_line : {Y : Type 0} → String Y × ℕ → List ℕ
count_line e = line_of (string_bytes e.0) e.1
