use Rattle.std.proofs.Common.{◌≡◌, drop}
use Rattle.std.specs.Cmp.Lexicographic.{pointwise}
use Rattle.trace_wire.specs.Schemas.{same_field}
use Rattle.trace_stats.proofs.same.are_same_fields.Given as goal

abbrev pub invariant-fields : goal.invariant-fields
invariant-fields l =
    pointwise same_field (drop l.index l.one) (drop l.index l.other) ≡ pointwise same_field l.one l.other
