use Rattle.std.proofs.Common.{◌≡◌, ◌++◌, length}
use Rattle.std.specs.List.{flat_map}
use Rattle.trace_lines.specs.Lines.{spaced_value}
use Rattle.trace_values.specs.ValueViews.{views}
use Rattle.trace_recordings.proofs.script.line.values_of.Given as goal

abbrev pub invariant-loop-rest : goal.invariant-loop-rest
invariant-loop-rest l = l.line ≡ flat_map spaced_value (views l.values.items) ++ l.rest

abbrev pub decreases-loop-rest : goal.decreases-loop-rest
decreases-loop-rest l = length l.rest
