use Rattle.std.proofs.Common.{◌≡◌, take}
use Rattle.trace_values.specs.TraceFields.{string_pairs}
use Rattle.trace_values.specs.ValueViews.{text_pairs_view}
use Rattle.trace_recordings.proofs.typed.fields.texts_of.Given as goal

abbrev pub invariant-loop-key : goal.invariant-loop-key
invariant-loop-key l = string_pairs l.made.items ≡ text_pairs_view (take l.key-index l.pairs)
