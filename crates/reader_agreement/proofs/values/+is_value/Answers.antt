use Rattle.std.proofs.Common.{◌≡◌, ◌&&◌, Bool, List, refl, sym, ap, ap₂, ◌∙◌, arith}
use Rattle.trace_values.specs.Equal.{same_value, same_items, same_pairs}
use Rattle.trace_values.specs.Reading.{values_to_items, values_to_pairs}
use Rattle.trace_values.specs.Refs.{ref_view, ref_views, ref_pair_views}
use Rattle.trace_values.specs.Values.{Value}
use Rattle.trace_values.specs.ValueViews.{view, views, pair_views}
use Rattle.trace_values.specs.declared.types.borrowed.FieldValueRef.{FieldValueRef}
use Rattle.trace_values.specs.declared.types.field_value.FieldValue.{FieldValue}
use Rattle.trace_values.proofs.CompareLoops.{both_parts, first_part}
use Rattle.trace_values.proofs.ListViews.{view_list, view_map, view_list_ref, view_map_ref}
use Rattle.trace_values.proofs.ValueSizes.{falls_2, steps_2, list_holds_items, map_holds_pairs, item_in, key_in}
use Rattle.trace_values.proofs.ValueSizes.{value_in}
use Rattle.reader_agreement.proofs.Apart.{items_apart, pairs_apart}
use Rattle.reader_agreement.proofs.TwoLists.{same_so_far, one_differs, all_same}
use Rattle.reader_agreement.proofs.values.+is_value.Goals as goal
use Rattle.reader_agreement.proofs.values.+is_value.Goals.{are_pairs-then-is_value}
use Rattle.reader_agreement.proofs.values.+is_value.Goals.{are_pairs-else-is_value}

-- ---- items

abbrev all_items : List FieldValue → List FieldValueRef → Bool
all_items xs ys = same_items (values_to_items (views xs)) (values_to_items (ref_views ys))

abbrev one_item : FieldValue → FieldValueRef → Bool
one_item x y = same_value (view x) (ref_view y)

pub are_items-returns-then-items-others : goal.are_items-returns-then-items-others
are_items-returns-then-items-others t c =
    items_apart c.args.items.now c.args.others.now (λ e. omega (arith, c.if-items-others.true, e))

pub are_items-loop-i-init : goal.are_items-loop-i-init
are_items-loop-i-init t c = refl

pub are_items-loop-i-preserved : goal.are_items-loop-i-preserved
are_items-loop-i-preserved t c =
    same_so_far all_items one_item (λ _ _ _ _. refl) c.args.items.now c.args.others.now c.loop-i.i
    (record {
      inside = c.loop-i-test.true;
      alike = c.if-items-others.false;
      first = c.index-items-i.is;
      second = c.index-others-i.is;
      tells = c.is_value.ensures;
    })
    c.loop-i.invariant
    c.if-not-is_value.false

pub are_items-returns-then-not-is_value : goal.are_items-returns-then-not-is_value
are_items-returns-then-not-is_value t c =
    one_differs all_items one_item (λ _ _ _ _. refl) c.args.items.now c.args.others.now c.loop-i.i
    (record {
      inside = c.loop-i-test.true;
      alike = c.if-items-others.false;
      first = c.index-items-i.is;
      second = c.index-others-i.is;
      tells = c.is_value.ensures;
    })
    c.loop-i.invariant
    c.if-not-is_value.true

pub are_items-returns : goal.are_items-returns
are_items-returns t c = all_same all_items refl c.args.items.now c.args.others.now c.loop-i.i _ c.loop-i-test.false
    c.if-items-others.false c.loop-i.invariant

-- ---- pairs

abbrev all_pairs : List (FieldValue × FieldValue) → List (FieldValueRef × FieldValueRef) → Bool
all_pairs xs ys = same_pairs (values_to_pairs (pair_views xs)) (values_to_pairs (ref_pair_views ys))

abbrev one_pair : FieldValue × FieldValue → FieldValueRef × FieldValueRef → Bool
one_pair x y = same_value (view x.0) (ref_view y.0) && same_value (view x.1) (ref_view y.1)

pub are_pairs-returns-then-pairs-others : goal.are_pairs-returns-then-pairs-others
are_pairs-returns-then-pairs-others t c =
    pairs_apart c.args.pairs.now c.args.others.now (λ e. omega (arith, c.if-pairs-others.true, e))

pub are_pairs-loop-i-init : goal.are_pairs-loop-i-init
are_pairs-loop-i-init t c = refl

pub are_pairs-loop-i-preserved : goal.are_pairs-loop-i-preserved
are_pairs-loop-i-preserved t c =
    let is : c.if-is_value.value ≡ one_pair c.index-pairs-i.result c.index-others-i.result = elim c.if-is_value.branch [
      | are_pairs-then-is_value w ↦ both_parts _ _ _ _ _ c.is_value.ensures w.if-is_value.true
          w.is_value-then-is_value.ensures w.value-is
      | are_pairs-else-is_value w ↦ first_part _ _ _ _ c.is_value.ensures w.if-is_value.false w.value-is
    ] in
    same_so_far all_pairs one_pair (λ _ _ _ _. refl) c.args.pairs.now c.args.others.now c.loop-i.i
    (record {
      inside = c.loop-i-test.true;
      alike = c.if-pairs-others.false;
      first = c.index-pairs-i.is;
      second = c.index-others-i.is;
      tells = is;
    }) c.loop-i.invariant c.if-not-is_value.false

pub are_pairs-returns-then-not-is_value : goal.are_pairs-returns-then-not-is_value
are_pairs-returns-then-not-is_value t c =
    let is : c.if-is_value.value ≡ one_pair c.index-pairs-i.result c.index-others-i.result = elim c.if-is_value.branch [
      | are_pairs-then-is_value w ↦ both_parts _ _ _ _ _ c.is_value.ensures w.if-is_value.true
          w.is_value-then-is_value.ensures w.value-is
      | are_pairs-else-is_value w ↦ first_part _ _ _ _ c.is_value.ensures w.if-is_value.false w.value-is
    ] in
    one_differs all_pairs one_pair (λ _ _ _ _. refl) c.args.pairs.now c.args.others.now c.loop-i.i
    (record {
      inside = c.loop-i-test.true;
      alike = c.if-pairs-others.false;
      first = c.index-pairs-i.is;
      second = c.index-others-i.is;
      tells = is;
    }) c.loop-i.invariant c.if-not-is_value.true

pub are_pairs-returns : goal.are_pairs-returns
are_pairs-returns t c = all_same all_pairs refl c.args.pairs.now c.args.others.now c.loop-i.i _ c.loop-i-test.false
    c.if-pairs-others.false c.loop-i.invariant

-- ---- a value

pub is_value-returns-in-List-List : goal.is_value-returns-in-List-List
is_value-returns-in-List-List t c =
    let x = ap view c.in-List-List.is-0 ∙ view_list c.in-List-List.x in
    let y = ap ref_view c.in-List-List.is-1 ∙ view_list_ref c.in-List-List.y in
    c.are_items.ensures ∙ ap₂ all_items c.as_slice.ensures.value c.items_of.ensures
    ∙ sym (ap₂ (λ (u v : Value). same_value u v) x y)

pub is_value-returns-in-Map-Map : goal.is_value-returns-in-Map-Map
is_value-returns-in-Map-Map t c =
    let x = ap view c.in-Map-Map.is-0 ∙ view_map c.in-Map-Map.x in
    let y = ap ref_view c.in-Map-Map.is-1 ∙ view_map_ref c.in-Map-Map.y in
    c.are_pairs.ensures ∙ ap₂ all_pairs c.as_slice-in-Map-Map.ensures.value c.pairs_of.ensures
    ∙ sym (ap₂ (λ (u v : Value). same_value u v) x y)

-- ---- what is gone into next is smaller

pub is_value-are_items-requires : goal.is_value-are_items-requires
is_value-are_items-requires t c =
    let s = c.as_slice in (
      falls_2 _ _ 0 1 t c.decreases (list_holds_items c.args.value.now c.in-List-List.x s.result.now c.in-List-List.is-0
          s.ensures.value) (omega arith),
      tt,
    )

pub is_value-are_pairs-requires : goal.is_value-are_pairs-requires
is_value-are_pairs-requires t c =
    let s = c.as_slice-in-Map-Map in (
      falls_2 _ _ 0 1 t c.decreases (map_holds_pairs c.args.value.now c.in-Map-Map.x s.result.now c.in-Map-Map.is-0
          s.ensures.value) (omega arith),
      tt,
    )

pub are_items-is_value-requires : goal.are_items-is_value-requires
are_items-is_value-requires t c = (
  steps_2 _ _ 1 0 t c.decreases (item_in c.args.items.now c.loop-i.i c.index-items-i.result c.loop-i-test.true
      c.index-items-i.is) (omega arith),
  tt,
)

pub are_pairs-is_value-requires : goal.are_pairs-is_value-requires
are_pairs-is_value-requires t c = (
  steps_2 _ _ 1 0 t c.decreases (key_in c.args.pairs.now c.loop-i.i c.index-pairs-i.result c.loop-i-test.true
      c.index-pairs-i.is) (omega arith),
  tt,
)

pub are_pairs-is_value-requires-then-is_value : goal.are_pairs-is_value-requires-then-is_value
are_pairs-is_value-requires-then-is_value t c = (
  steps_2 _ _ 1 0 t c.decreases (value_in c.args.pairs.now c.loop-i.i c.index-pairs-i.result c.loop-i-test.true
      c.index-pairs-i.is) (omega arith),
  tt,
)
