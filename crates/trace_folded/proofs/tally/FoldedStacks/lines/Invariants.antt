use Rattle.std.proofs.Common.{◌≡◌, ◌++◌, string_bytes}
use Rattle.std.specs.List.{flat_map}
use Rattle.trace_folded.specs.Tallies.{count_line}
use Rattle.trace_folded.proofs.tally.FoldedStacks.lines.Given as goal

abbrev pub invariant-stacks : goal.invariant-stacks
invariant-stacks l =
    (goal.iterator-stacks).can_next l.text-iterator × (goal.iterator-stacks).is_finite l.text-iterator
    × (flat_map count_line l.self.counts.entries ≡ string_bytes l.lines ++ flat_map count_line l.text-iterator)
