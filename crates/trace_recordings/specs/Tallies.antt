-- What is counted.
use Rattle.std.specs.Prelude.{ℕ, ◌+◌, ◌-◌, ◌^◌, Bool, List, [], ◌∷◌, length, map, min, nat_eq, if◌then◌else◌}
use Rattle.std.specs.Cmp.Lexicographic.{pointwise}
use Rattle.trace_recordings.specs.declared.findings.Findings.{Findings}
use Rattle.trace_recordings.specs.declared.findings.PartFinding.{PartFinding}
use Rattle.trace_recordings.specs.declared.findings.PartFinding.TheVariants.{Absent, LeftOut, Compared}
use Rattle.trace_recordings.specs.declared.tally.Parts.{Parts}
use Rattle.trace_recordings.specs.declared.tally.LeftOut as left

-- so many more, up to the greatest number of 64 bits
abbrev pub counted_up : ℕ → ℕ → ℕ
counted_up n more = min (n + more) (2 ^ 64 - 1)

-- names, and how often each was left out
abbrev pub Counts : Type 0
Counts = List (List ℕ × ℕ)

-- one more of a name; a new one comes last
abbrev pub one_more_of : List ℕ → Counts → Counts
one_more_of name [] = (name, 1) ∷ []
one_more_of name (c ∷ counts) =
    if pointwise nat_eq c.0 name then (c.0, counted_up c.1 1) ∷ counts else c ∷ one_more_of name counts

abbrev pub is_named : List ℕ → left.LeftOut → Bool
is_named name l = pointwise nat_eq l.name.now name

-- how many parts were compared, in how much they differed, and what was left out
pub record Seen : Type 0 where
  pub compared : ℕ
  pub differences : ℕ
  pub left_out : Counts

abbrev pub nothing_seen : Seen
nothing_seen = record { compared = 0; differences = 0; left_out = [] }

abbrev pub counts_of : List left.LeftOut → Counts
counts_of left_out = map (λ l. (l.name.now, l.count)) left_out

abbrev pub seen_in : Parts → Seen
seen_in p = record { compared = p.compared; differences = p.differences; left_out = counts_of p.left_out.items }

-- with one more outcome
abbrev pub with_outcome : PartFinding → Seen → Seen
with_outcome Absent s = s
with_outcome (LeftOut name) s = record s { left_out = one_more_of name.now s.left_out }
with_outcome (Compared differences) s =
    record s { compared = counted_up s.compared 1; differences = counted_up s.differences (length differences.items) }

-- with what became of the other readings
abbrev pub with_readings : Findings → Seen → Seen
with_readings f s = with_outcome f.sink (with_outcome f.resolved (with_outcome f.borrowed s))
