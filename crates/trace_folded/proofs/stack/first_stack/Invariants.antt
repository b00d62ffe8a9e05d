use Rattle.std.proofs.Common.{◌≡◌, drop}
use Rattle.trace_values.specs.ValueViews.{views}
use Rattle.trace_folded.specs.Stacks.{first_stack}
use Rattle.trace_folded.proofs.stack.first_stack.Given as goal

abbrev pub invariant-values : goal.invariant-values
invariant-values l = first_stack l.pool (views l.values) ≡ first_stack l.pool (views (drop l.value-index l.values))
