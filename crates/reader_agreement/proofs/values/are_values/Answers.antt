use Rattle.std.proofs.Common.{Bool, List, refl, arith}
use Rattle.std.specs.Cmp.Lexicographic.{pointwise}
use Rattle.trace_values.specs.Equal.{same_value}
use Rattle.trace_values.specs.Refs.{ref_view, ref_views}
use Rattle.trace_values.specs.ValueViews.{view, views}
use Rattle.trace_values.specs.declared.types.borrowed.FieldValueRef.{FieldValueRef}
use Rattle.trace_values.specs.declared.types.field_value.FieldValue.{FieldValue}
use Rattle.reader_agreement.proofs.Apart.{values_apart}
use Rattle.reader_agreement.proofs.TwoLists.{same_so_far, one_differs, all_same}
use Rattle.reader_agreement.proofs.values.are_values.Goals as goal

abbrev all_values : List FieldValue → List FieldValueRef → Bool
all_values xs ys = pointwise same_value (views xs) (ref_views ys)

abbrev one_value : FieldValue → FieldValueRef → Bool
one_value x y = same_value (view x) (ref_view y)

pub returns-then-values-others : goal.returns-then-values-others
returns-then-values-others c =
    values_apart c.args.values.now c.args.others.now (λ e. omega (arith, c.if-values-others.true, e))

pub loop-i-init : goal.loop-i-init
loop-i-init c = refl

pub loop-i-preserved : goal.loop-i-preserved
loop-i-preserved c =
    same_so_far all_values one_value (λ _ _ _ _. refl) c.args.values.now c.args.others.now c.loop-i.i
    (record {
      inside = c.loop-i-test.true;
      alike = c.if-values-others.false;
      first = c.index-values-i.is;
      second = c.index-others-i.is;
      tells = c.is_value.ensures;
    })
    c.loop-i.invariant
    c.if-not-is_value.false

pub returns-then-not-is_value : goal.returns-then-not-is_value
returns-then-not-is_value c =
    one_differs all_values one_value (λ _ _ _ _. refl) c.args.values.now c.args.others.now c.loop-i.i
    (record {
      inside = c.loop-i-test.true;
      alike = c.if-values-others.false;
      first = c.index-values-i.is;
      second = c.index-others-i.is;
      tells = c.is_value.ensures;
    })
    c.loop-i.invariant
    c.if-not-is_value.true

pub returns : goal.returns
returns c = all_same all_values refl c.args.values.now c.args.others.now c.loop-i.i _ c.loop-i-test.false
    c.if-values-others.false c.loop-i.invariant
