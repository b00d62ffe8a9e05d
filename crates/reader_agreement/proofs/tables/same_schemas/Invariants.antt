use Rattle.std.proofs.Common.{◌≡◌}
use Rattle.std.specs.FinMap as map
use Rattle.trace_wire.specs.Registries.{entries_of}
use Rattle.reader_agreement.proofs.SideBySide.{LeftAlike}
use Rattle.reader_agreement.proofs.tables.same_schemas.Given as goal

abbrev pub invariant-loop-id : goal.invariant-loop-id
invariant-loop-id l =
    (goal.iterator-loop-id).can_next l.id-iterator × (goal.iterator-loop-id).is_finite l.id-iterator
    × LeftAlike (entries_of (map.entries l.registry.wire_types) ≡ entries_of (map.entries l.other.wire_types))
    l.id-iterator l.others
