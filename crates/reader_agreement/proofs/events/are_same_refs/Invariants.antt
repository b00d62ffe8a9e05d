use Rattle.std.proofs.Common.{◌≡◌, drop}
use Rattle.std.specs.Cmp.Lexicographic.{pointwise}
use Rattle.trace_values.specs.Equal.{same_value}
use Rattle.trace_values.specs.Refs.{ref_views}
use Rattle.reader_agreement.proofs.events.are_same_refs.Given as goal

abbrev pub invariant-loop-i : goal.invariant-loop-i
invariant-loop-i l = pointwise same_value (ref_views (drop l.i l.a)) (ref_views (drop l.i l.b))
    ≡ pointwise same_value (ref_views l.a) (ref_views l.b)
