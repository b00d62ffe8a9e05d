use Rattle.std.proofs.Common.{◌≡◌, ◌≤◌, ◌-◌, ◌^◌, length}
use Rattle.std.specs.FinMap as map
use Rattle.trace_recordings.specs.Tallies.{counted_up}
use Rattle.trace_recordings.proofs.pieces.schema_count.Given as goal

abbrev pub invariant-loop : goal.invariant-loop
invariant-loop l =
    (counted_up l.count (length l.iterator') ≡ counted_up 0 (length (map.entries l.registry.wire_types)))
    × (l.count ≤ 2 ^ 64 - 1)
