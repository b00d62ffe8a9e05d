use Rattle.std.proofs.Common.{Bool, List, refl, sym, ◌∙◌}
use Rattle.std.proofs.lemmas.List.{at_drop_all}
use Rattle.std.specs.List.{list_any}
use Rattle.trace_values.specs.Refs.{ref_view, ref_views}
use Rattle.trace_values.specs.declared.types.borrowed.FieldValueRef.{FieldValueRef}
use Rattle.trace_values.proofs.CompareLoops.{none_so_far, one_found}
use Rattle.reader_agreement.specs.ReadAlike.{value_lacks_texts}
use Rattle.reader_agreement.proofs.frames.any_lacks_texts.Goals as goal

abbrev any_lacks : List FieldValueRef → Bool
any_lacks vs = list_any value_lacks_texts (ref_views vs)

abbrev one_lacks : FieldValueRef → Bool
one_lacks v = value_lacks_texts (ref_view v)

pub loop-value-init : goal.loop-value-init
loop-value-init c = refl

pub loop-value-preserved : goal.loop-value-preserved
loop-value-preserved c =
    none_so_far any_lacks one_lacks (λ _ _. refl) _ c.loop-value.value-index c.loop-value-test.true c.value-item.is
    c.if-value_lacks_texts.ensures c.loop-value.invariant

pub returns-then-value_lacks_texts : goal.returns-then-value_lacks_texts
returns-then-value_lacks_texts c =
    one_found any_lacks one_lacks (λ _ _. refl) _ c.loop-value.value-index c.loop-value-test.true c.value-item.is
    c.if-value_lacks_texts.ensures c.loop-value.invariant

pub returns : goal.returns
returns c = sym (at_drop_all any_lacks c.args.values.now c.loop-value.value-index c.loop-value-test.false)
    ∙ c.loop-value.invariant
