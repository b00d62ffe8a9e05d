use Rattle.std.proofs.Common.{◌≡◌, drop}
use Rattle.std.specs.Cmp.Lexicographic.{pointwise}
use Rattle.trace_values.specs.Equal.{same_value}
use Rattle.trace_values.specs.Refs.{ref_views}
use Rattle.trace_values.specs.ValueViews.{views}
use Rattle.reader_agreement.proofs.values.are_values.Given as goal

abbrev pub invariant-loop-i : goal.invariant-loop-i
invariant-loop-i l = pointwise same_value (views (drop l.i l.values)) (ref_views (drop l.i l.others))
    ≡ pointwise same_value (views l.values) (ref_views l.others)
