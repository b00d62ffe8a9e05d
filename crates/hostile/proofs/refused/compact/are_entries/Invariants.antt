use Rattle.std.proofs.Common.{◌≡◌, drop, map}
use Rattle.std.specs.Cmp.Lexicographic.{pointwise}
use Rattle.trace_wire.specs.PoolEntries.{string_entry_of, same_pool_entry}
use Rattle.dial9_trace_format.specs.CompactFrames.{compact_entry_of}
use Rattle.hostile.proofs.refused.compact.are_entries.Given as goal

-- the entries from the place on are the same as far as all are
abbrev pub invariant-loop-i : goal.invariant-loop-i
invariant-loop-i l = pointwise same_pool_entry (map string_entry_of (drop l.i l.wanted))
    (map compact_entry_of (drop l.i l.entries))
    ≡ pointwise same_pool_entry (map string_entry_of l.wanted) (map compact_entry_of l.entries)
