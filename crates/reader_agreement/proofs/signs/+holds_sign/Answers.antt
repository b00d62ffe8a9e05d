use Rattle.std.proofs.Common.{◌≡◌, Bool, false, List, String, Vec, Global, refl, sym, ap, ◌∙◌, rules, arith}
use Rattle.std.proofs.lemmas.List.{at_drop_all}
use Rattle.std.specs.Prelude.{string_bytes}
use Rattle.trace_values.specs.Reading.{values_to_items, values_to_pairs}
use Rattle.trace_values.specs.Values.{Value, text, list, map}
use Rattle.trace_values.specs.ValueViews.{view, views, pair_views}
use Rattle.trace_values.specs.declared.types.field_value.FieldValue.{FieldValue, the_lemmas}
use Rattle.trace_values.specs.declared.types.field_value.FieldValue.TheVariants.{String as StringValue}
use Rattle.trace_values.specs.declared.types.field_value.FieldValue.TheViews.{List as ListValue, Map as MapValue}
use Rattle.trace_values.proofs.CompareLoops.{none_so_far, neither_so_far, one_found, first_found, second_found}
use Rattle.trace_values.proofs.ListViews.{view_list, view_map}
use Rattle.trace_values.proofs.ValueSizes.{falls_2, steps_2, list_holds_items, map_holds_pairs, item_in, key_in}
use Rattle.trace_values.proofs.ValueSizes.{value_in}
use Rattle.trace_values.proofs.ValueViews.{view_text}
use Rattle.reader_agreement.specs.Signs.{has_sign, holds_sign, items_hold_sign, pairs_hold_sign}
use Rattle.reader_agreement.proofs.signs.+holds_sign.Goals as goal

-- ---- lists

abbrev of_items : List FieldValue → Bool
of_items vs = items_hold_sign (values_to_items (views vs))

abbrev of_item : FieldValue → Bool
of_item v = holds_sign (view v)

pub items_hold_sign-loop-item-init : goal.items_hold_sign-loop-item-init
items_hold_sign-loop-item-init t c = refl

pub items_hold_sign-loop-item-preserved : goal.items_hold_sign-loop-item-preserved
items_hold_sign-loop-item-preserved t c =
    none_so_far of_items of_item (λ _ _. refl) _ c.loop-item.item-index c.loop-item-test.true c.item-item.is
    c.if-holds_sign.ensures c.loop-item.invariant

pub items_hold_sign-returns-then-holds_sign : goal.items_hold_sign-returns-then-holds_sign
items_hold_sign-returns-then-holds_sign t c =
    one_found of_items of_item (λ _ _. refl) _ c.loop-item.item-index c.loop-item-test.true c.item-item.is
    c.if-holds_sign.ensures c.loop-item.invariant

pub items_hold_sign-returns : goal.items_hold_sign-returns
items_hold_sign-returns t c =
    sym (at_drop_all of_items c.args.items.now c.loop-item.item-index c.loop-item-test.false) ∙ c.loop-item.invariant

-- ---- pairs

abbrev of_pairs : List (FieldValue × FieldValue) → Bool
of_pairs ps = pairs_hold_sign (values_to_pairs (pair_views ps))

abbrev of_key : FieldValue × FieldValue → Bool
of_key p = holds_sign (view p.0)

abbrev of_value : FieldValue × FieldValue → Bool
of_value p = holds_sign (view p.1)

pub pairs_hold_sign-loop-pair-init : goal.pairs_hold_sign-loop-pair-init
pairs_hold_sign-loop-pair-init t c = refl

pub pairs_hold_sign-loop-pair-preserved : goal.pairs_hold_sign-loop-pair-preserved
pairs_hold_sign-loop-pair-preserved t c =
    neither_so_far of_pairs of_key of_value (λ _ _. refl) _ c.loop-pair.pair-index
    (record { inside = c.loop-pair-test.true; is = c.pair-item.is }) c.if-holds_sign.ensures c.if-holds_sign-2.ensures
    c.loop-pair.invariant

pub pairs_hold_sign-returns-then-holds_sign : goal.pairs_hold_sign-returns-then-holds_sign
pairs_hold_sign-returns-then-holds_sign t c =
    first_found of_pairs of_key of_value (λ _ _. refl) _ c.loop-pair.pair-index c.loop-pair-test.true c.pair-item.is
    c.if-holds_sign.ensures c.loop-pair.invariant

pub pairs_hold_sign-returns-then-holds_sign-2 : goal.pairs_hold_sign-returns-then-holds_sign-2
pairs_hold_sign-returns-then-holds_sign-2 t c =
    second_found of_pairs of_key of_value (λ _ _. refl) _ c.loop-pair.pair-index
    (record { inside = c.loop-pair-test.true; is = c.pair-item.is }) c.if-holds_sign.ensures c.if-holds_sign-2.ensures
    c.loop-pair.invariant

pub pairs_hold_sign-returns : goal.pairs_hold_sign-returns
pairs_hold_sign-returns t c =
    sym (at_drop_all of_pairs c.args.pairs.now c.loop-pair.pair-index c.loop-pair-test.false) ∙ c.loop-pair.invariant

-- ---- a value

seen : (v w : Value) (r : Bool) → v ≡ w → r ≡ holds_sign w → r ≡ holds_sign v
seen v w r e h = h ∙ ap (λ (x : Value). holds_sign x) (sym e)

no_sign :
    (v : FieldValue) → ((s : String Global) → v ≡ StringValue s → ⊥)
    → ((s : Vec FieldValue Global) → v ≡ ListValue s → ⊥)
    → ((s : Vec (FieldValue × FieldValue) Global) → v ≡ MapValue s → ⊥) → false ≡ holds_sign (view v)
no_sign v no_text no_list no_map = search (rules, the_lemmas)

pub holds_sign-returns-in-String : goal.holds_sign-returns-in-String
holds_sign-returns-in-String t c =
    seen (view c.args.value.now) (text (string_bytes c.in-String.text)) _
    (ap view c.in-String.is ∙ view_text c.in-String.text)
    (c.has_sign.ensures ∙ ap has_sign c.as_bytes.ensures.value)

pub holds_sign-returns-in-List : goal.holds_sign-returns-in-List
holds_sign-returns-in-List t c =
    seen (view c.args.value.now) (list (values_to_items (views c.in-List.items.items))) _
    (ap view c.in-List.is ∙ view_list c.in-List.items)
    (c.items_hold_sign.ensures ∙ ap of_items c.as_slice.ensures.value)

pub holds_sign-returns-in-Map : goal.holds_sign-returns-in-Map
holds_sign-returns-in-Map t c =
    seen (view c.args.value.now) (map (values_to_pairs (pair_views c.in-Map.pairs.items))) _
    (ap view c.in-Map.is ∙ view_map c.in-Map.pairs)
    (c.pairs_hold_sign.ensures ∙ ap of_pairs c.as_slice-in-Map.ensures.value)

pub holds_sign-returns-in_default : goal.holds_sign-returns-in_default
holds_sign-returns-in_default t c =
    let d = c.in_default in
    no_sign c.args.value.now d.not-String d.not-List d.not-Map

-- ---- what is gone into next is smaller

pub holds_sign-items_hold_sign-requires : goal.holds_sign-items_hold_sign-requires
holds_sign-items_hold_sign-requires t c = (
  falls_2 _ _ 0 1 t c.decreases (list_holds_items c.args.value.now c.in-List.items c.as_slice.result.now c.in-List.is
      c.as_slice.ensures.value) (omega arith),
  tt,
)

pub holds_sign-pairs_hold_sign-requires : goal.holds_sign-pairs_hold_sign-requires
holds_sign-pairs_hold_sign-requires t c = (
  falls_2 _ _ 0 1 t c.decreases (map_holds_pairs c.args.value.now c.in-Map.pairs c.as_slice-in-Map.result.now
      c.in-Map.is c.as_slice-in-Map.ensures.value) (omega arith),
  tt,
)

pub items_hold_sign-holds_sign-requires : goal.items_hold_sign-holds_sign-requires
items_hold_sign-holds_sign-requires t c = (
  steps_2 _ _ 1 0 t c.decreases (item_in c.args.items.now c.loop-item.item-index c.item-item.result
      c.loop-item-test.true c.item-item.is) (omega arith),
  tt,
)

pub pairs_hold_sign-holds_sign-requires : goal.pairs_hold_sign-holds_sign-requires
pairs_hold_sign-holds_sign-requires t c = (
  steps_2 _ _ 1 0 t c.decreases (key_in c.args.pairs.now c.loop-pair.pair-index c.pair-item.result
      c.loop-pair-test.true c.pair-item.is) (omega arith),
  tt,
)

pub pairs_hold_sign-holds_sign-requires-in-loop-pair : goal.pairs_hold_sign-holds_sign-requires-in-loop-pair
pairs_hold_sign-holds_sign-requires-in-loop-pair t c = (
  steps_2 _ _ 1 0 t c.decreases (value_in c.args.pairs.now c.loop-pair.pair-index c.pair-item.result
      c.loop-pair-test.true c.pair-item.is) (omega arith),
  tt,
)
