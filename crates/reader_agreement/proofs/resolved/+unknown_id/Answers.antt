use Rattle.std.proofs.Common.{◌≡◌, List, ◌++◌, None, refl, sym, ap, ◌∙◌, rules, arith}
use Rattle.trace_values.specs.Reading.{values_to_items, values_to_pairs}
use Rattle.trace_values.specs.Refs.{ref_view, ref_views, ref_pair_views}
use Rattle.trace_values.specs.Values.{Value, pooled_text, pooled_stack}
use Rattle.trace_values.specs.declared.types.borrowed.DynamicListRef.{DynamicListRef}
use Rattle.trace_values.specs.declared.types.borrowed.DynamicMapRef.{DynamicMapRef}
use Rattle.trace_values.specs.declared.types.borrowed.FieldValueRef.{FieldValueRef, the_lemmas as ref_lemmas}
use Rattle.trace_values.specs.declared.types.borrowed.FieldValueRef.TheVariants as refs
use Rattle.trace_values.specs.declared.types.ids.InternedStackFrames.{InternedStackFrames}
use Rattle.trace_values.specs.declared.types.ids.InternedString.{InternedString}
use Rattle.trace_values.proofs.ListViews.{view_list_ref, view_map_ref}
use Rattle.trace_values.proofs.RefSizes.{key_ref_in, ref_in, value_holds_ref_pairs, value_holds_refs, value_ref_in}
use Rattle.trace_values.proofs.ValueSizes.{falls_2, steps_2}
use Rattle.trace_wire.specs.Runs.{Pools}
use Rattle.dial9_trace_format.specs.Resolving.{unknown_ids, unknown_item_ids, unknown_pair_ids}
use Rattle.dial9_trace_format.specs.declared.resolve.error.DeserError.{DeserError}
use Rattle.dial9_trace_format.specs.parts.Resolving.{as_pools}
use Rattle.reader_agreement.proofs.Lookups.{first, first_stays, neither, missing_here, nothing_here, nothing_missing}
use Rattle.reader_agreement.proofs.resolved.+unknown_id.Goals as goal

-- ---- items

abbrev of_items : Pools → List FieldValueRef → List DeserError
of_items p vs = unknown_item_ids p (values_to_items (ref_views vs))

abbrev of_item : Pools → FieldValueRef → List DeserError
of_item p v = unknown_ids p (ref_view v)

pub unknown_item_id-loop-item-init : goal.unknown_item_id-loop-item-init
unknown_item_id-loop-item-init t c = refl

pub unknown_item_id-returns-then-is_some : goal.unknown_item_id-returns-then-is_some
unknown_item_id-returns-then-is_some t c =
    let p = as_pools c.args.texts.now c.args.stacks.now in
    missing_here (of_items p) (of_item p) (λ _ _. refl) c.args.items.now c.loop-item.item-index c.loop-item-test.true
    c.item-item.is c.unknown_id-unknown.ensures (sym c.is_some.ensures ∙ c.if-is_some.true) c.loop-item.invariant

pub unknown_item_id-loop-item-preserved : goal.unknown_item_id-loop-item-preserved
unknown_item_id-loop-item-preserved t c =
    let p = as_pools c.args.texts.now c.args.stacks.now in
    nothing_here (of_items p) (of_item p) (λ _ _. refl) c.args.items.now c.loop-item.item-index c.loop-item-test.true
    c.item-item.is c.unknown_id-unknown.ensures (sym c.is_some.ensures ∙ c.if-is_some.false) c.loop-item.invariant

pub unknown_item_id-returns : goal.unknown_item_id-returns
unknown_item_id-returns t c =
    let p = as_pools c.args.texts.now c.args.stacks.now in
    nothing_missing (of_items p) refl c.args.items.now c.loop-item.item-index c.loop-item-test.false
    c.loop-item.invariant

-- ---- pairs

abbrev of_pairs : Pools → List (FieldValueRef × FieldValueRef) → List DeserError
of_pairs p ps = unknown_pair_ids p (values_to_pairs (ref_pair_views ps))

abbrev of_pair : Pools → FieldValueRef × FieldValueRef → List DeserError
of_pair p x = unknown_ids p (ref_view x.0) ++ unknown_ids p (ref_view x.1)

pub unknown_pair_id-loop-pair-init : goal.unknown_pair_id-loop-pair-init
unknown_pair_id-loop-pair-init t c = refl

pub unknown_pair_id-returns-then-is_some : goal.unknown_pair_id-returns-then-is_some
unknown_pair_id-returns-then-is_some t c =
    let p = as_pools c.args.texts.now c.args.stacks.now in
    let there = sym c.is_some.ensures ∙ c.if-is_some.true in
    missing_here (of_pairs p) (of_pair p) (λ _ _. refl) c.args.pairs.now c.loop-pair.pair-index c.loop-pair-test.true
    c.pair-item.is (first_stays (unknown_ids p (ref_view c.pair-item.result.0)) _ _ c.unknown_id-key.ensures there)
    there c.loop-pair.invariant

pub unknown_pair_id-returns-then-is_some-2 : goal.unknown_pair_id-returns-then-is_some-2
unknown_pair_id-returns-then-is_some-2 t c =
    let p = as_pools c.args.texts.now c.args.stacks.now in
    missing_here (of_pairs p) (of_pair p) (λ _ _. refl) c.args.pairs.now c.loop-pair.pair-index c.loop-pair-test.true
    c.pair-item.is (neither (unknown_ids p (ref_view c.pair-item.result.0)) _ _ _ c.unknown_id-key.ensures
    (sym c.is_some.ensures ∙ c.if-is_some.false) c.unknown_id-value.ensures)
    (sym c.is_some-in-loop-pair.ensures ∙ c.if-is_some-2.true) c.loop-pair.invariant

pub unknown_pair_id-loop-pair-preserved : goal.unknown_pair_id-loop-pair-preserved
unknown_pair_id-loop-pair-preserved t c =
    let p = as_pools c.args.texts.now c.args.stacks.now in
    nothing_here (of_pairs p) (of_pair p) (λ _ _. refl) c.args.pairs.now c.loop-pair.pair-index c.loop-pair-test.true
    c.pair-item.is (neither (unknown_ids p (ref_view c.pair-item.result.0)) _ _ _ c.unknown_id-key.ensures
    (sym c.is_some.ensures ∙ c.if-is_some.false) c.unknown_id-value.ensures)
    (sym c.is_some-in-loop-pair.ensures ∙ c.if-is_some-2.false) c.loop-pair.invariant

pub unknown_pair_id-returns : goal.unknown_pair_id-returns
unknown_pair_id-returns t c =
    let p = as_pools c.args.texts.now c.args.stacks.now in
    nothing_missing (of_pairs p) refl c.args.pairs.now c.loop-pair.pair-index c.loop-pair-test.false
    c.loop-pair.invariant

-- ---- a value

abbrev of_value : Pools → Value → List DeserError
of_value p w = unknown_ids p w

view_text_id : (id : InternedString) → ref_view (refs.PooledString id) ≡ pooled_text id.0
view_text_id id = search (rules, ref_lemmas)

view_stack_id : (id : InternedStackFrames) → ref_view (refs.PooledStackFrames id) ≡ pooled_stack id.0
view_stack_id id = search (rules, ref_lemmas)

no_ids :
    (p : Pools) (v : FieldValueRef) → ((id : InternedString) → v ≡ refs.PooledString id → ⊥)
    → ((id : InternedStackFrames) → v ≡ refs.PooledStackFrames id → ⊥)
    → ((l : DynamicListRef) → v ≡ refs.List l → ⊥) → ((m : DynamicMapRef) → v ≡ refs.Map m → ⊥)
    → None ≡ first (unknown_ids p (ref_view v))
no_ids p v no_text no_stack no_list no_map = search (rules, ref_lemmas)

pub unknown_id-returns-in-PooledString : goal.unknown_id-returns-in-PooledString
unknown_id-returns-in-PooledString t c =
    let p = as_pools c.args.texts.now c.args.stacks.now in
    c.unknown_text.ensures ∙ sym (ap (λ (w : Value). first (of_value p w))
    (ap ref_view c.in-PooledString.is ∙ view_text_id c.in-PooledString.id))

pub unknown_id-returns-in-PooledStackFrames : goal.unknown_id-returns-in-PooledStackFrames
unknown_id-returns-in-PooledStackFrames t c =
    let p = as_pools c.args.texts.now c.args.stacks.now in
    c.unknown_stack.ensures ∙ sym (ap (λ (w : Value). first (of_value p w))
    (ap ref_view c.in-PooledStackFrames.is ∙ view_stack_id c.in-PooledStackFrames.id))

pub unknown_id-returns-in-List : goal.unknown_id-returns-in-List
unknown_id-returns-in-List t c =
    let p = as_pools c.args.texts.now c.args.stacks.now in
    c.unknown_item_id.ensures ∙ ap (λ (vs : List FieldValueRef). first (of_items p vs)) c.items_of.ensures
    ∙ sym (ap (λ (w : Value). first (of_value p w)) (ap ref_view c.in-List.is ∙ view_list_ref c.in-List.items))

pub unknown_id-returns-in-Map : goal.unknown_id-returns-in-Map
unknown_id-returns-in-Map t c =
    let p = as_pools c.args.texts.now c.args.stacks.now in
    c.unknown_pair_id.ensures
    ∙ ap (λ (ps : List (FieldValueRef × FieldValueRef)). first (of_pairs p ps)) c.pairs_of.ensures
    ∙ sym (ap (λ (w : Value). first (of_value p w)) (ap ref_view c.in-Map.is ∙ view_map_ref c.in-Map.pairs))

pub unknown_id-returns-in_default : goal.unknown_id-returns-in_default
unknown_id-returns-in_default t c =
    let d = c.in_default in
    no_ids _ c.args.value.now d.not-PooledString d.not-PooledStackFrames d.not-List d.not-Map

-- ---- what is gone into next is smaller

pub unknown_id-unknown_item_id-requires : goal.unknown_id-unknown_item_id-requires
unknown_id-unknown_item_id-requires t c =
    let s = c.items_of in (
      falls_2 _ _ 0 1 t c.decreases (value_holds_refs c.args.value.now c.in-List.items s.result.now c.in-List.is
          s.ensures) (omega arith),
      tt,
    )

pub unknown_id-unknown_pair_id-requires : goal.unknown_id-unknown_pair_id-requires
unknown_id-unknown_pair_id-requires t c =
    let s = c.pairs_of in (
      falls_2 _ _ 0 1 t c.decreases (value_holds_ref_pairs c.args.value.now c.in-Map.pairs s.result.now c.in-Map.is
          s.ensures) (omega arith),
      tt,
    )

pub unknown_item_id-unknown_id-unknown-requires : goal.unknown_item_id-unknown_id-unknown-requires
unknown_item_id-unknown_id-unknown-requires t c = (
  steps_2 _ _ 1 0 t c.decreases (ref_in c.args.items.now c.loop-item.item-index c.item-item.result
      c.loop-item-test.true c.item-item.is) (omega arith),
  tt,
)

pub unknown_pair_id-unknown_id-key-requires : goal.unknown_pair_id-unknown_id-key-requires
unknown_pair_id-unknown_id-key-requires t c = (
  steps_2 _ _ 1 0 t c.decreases (key_ref_in c.args.pairs.now c.loop-pair.pair-index c.pair-item.result
      c.loop-pair-test.true c.pair-item.is) (omega arith),
  tt,
)

pub unknown_pair_id-unknown_id-value-requires : goal.unknown_pair_id-unknown_id-value-requires
unknown_pair_id-unknown_id-value-requires t c = (
  steps_2 _ _ 1 0 t c.decreases (value_ref_in c.args.pairs.now c.loop-pair.pair-index c.pair-item.result
      c.loop-pair-test.true c.pair-item.is) (omega arith),
  tt,
)
