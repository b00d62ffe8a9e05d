-- What is put under a text.
use Rattle.std.specs.Prelude.{◌≡◌, ℕ, List, String, if◌then◌else◌}
use Rattle.std.specs.BTreeMap.{BTreeMap}
use Rattle.std.specs.Str.{bytes_eq}
use Rattle.trace_folded.specs.Tallies.{count_of}

-- the number of a text has become this one, and that of each other is as it was
abbrev pub SetsCount : {Y : Type 0} → BTreeMap (String Y) ℕ → BTreeMap (String Y) ℕ → List ℕ → ℕ → Type 0
SetsCount old new text count =
    (other : List ℕ) → count_of new other ≡ if bytes_eq text other then count else count_of old other
