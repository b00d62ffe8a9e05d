use Rattle.std.proofs.Common.{◌≡◌, map, take}
use Rattle.trace_values.specs.Values.{number}
use Rattle.trace_values.specs.ValueViews.{views}
use Rattle.trace_recordings.proofs.typed.events.numbers_of.Given as goal

abbrev pub invariant-loop-value : goal.invariant-loop-value
invariant-loop-value l = map number l.numbers.items ≡ views (take l.value-index l.values)
