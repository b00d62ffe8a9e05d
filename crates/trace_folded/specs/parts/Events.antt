-- For private contracts: what one event adds.
use Rattle.std.specs.Prelude.{◌≡◌, ◌≤◌, ◌+◌, ◌^◌, ℕ, List, Option, Some}
use Rattle.trace_folded.specs.Stacks.{folded_text}
use Rattle.trace_folded.specs.Tallies.{count_of}
use Rattle.trace_folded.specs.Events.{part_for}
use Rattle.trace_folded.specs.declared.tally.FoldedStacks.{FoldedStacks}

-- the number of each text has become so much more as this stack and amount are
abbrev pub AddsPart : FoldedStacks → FoldedStacks → List ℕ → Option ℕ → Type 0
AddsPart old new xs amount =
    (text : List ℕ) → count_of new.counts text ≡ count_of old.counts text + part_for (Some xs) amount text

-- with this amount the number of the stack would pass 2 ^ 64 - 1
abbrev pub IsPartTooMuch : FoldedStacks → List ℕ → Option ℕ → Type 0
IsPartTooMuch old xs amount =
    (n : ℕ) × (amount ≡ Some n) × (2 ^ 64 ≤ count_of old.counts (folded_text xs) + n)
