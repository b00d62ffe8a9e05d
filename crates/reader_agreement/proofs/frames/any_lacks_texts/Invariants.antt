use Rattle.std.proofs.Common.{◌≡◌, drop}
use Rattle.std.specs.List.{list_any}
use Rattle.trace_values.specs.Refs.{ref_views}
use Rattle.reader_agreement.specs.ReadAlike.{value_lacks_texts}
use Rattle.reader_agreement.proofs.frames.any_lacks_texts.Given as goal

abbrev pub invariant-loop-value : goal.invariant-loop-value
invariant-loop-value l = list_any value_lacks_texts (ref_views (drop l.value-index l.values))
    ≡ list_any value_lacks_texts (ref_views l.values)
