use Rattle.std.proofs.Common.{◌≡◌, ◌&&◌, Bool, true, List, refl, sym, ap, ◌∙◌, rules, arith}
use Rattle.trace_values.specs.Equal.{same_value, same_items, same_pairs}
use Rattle.trace_values.specs.Reading.{values_to_items, values_to_pairs}
use Rattle.trace_values.specs.Refs.{ref_view, ref_views, ref_pair_views}
use Rattle.trace_values.specs.Values.{Value, list, map, pooled_text, pooled_stack}
use Rattle.trace_values.specs.declared.types.borrowed.DynamicListRef.{DynamicListRef}
use Rattle.trace_values.specs.declared.types.borrowed.DynamicMapRef.{DynamicMapRef}
use Rattle.trace_values.specs.declared.types.borrowed.FieldValueRef.{FieldValueRef, the_lemmas as ref_lemmas}
use Rattle.trace_values.specs.declared.types.borrowed.FieldValueRef.TheVariants as refs
use Rattle.trace_values.specs.declared.types.ids.InternedStackFrames.{InternedStackFrames}
use Rattle.trace_values.specs.declared.types.ids.InternedString.{InternedString}
use Rattle.trace_values.proofs.CompareLoops.{both_parts, first_part}
use Rattle.trace_values.proofs.ListViews.{view_list_ref, view_map_ref}
use Rattle.trace_wire.specs.Runs.{Pools}
use Rattle.dial9_trace_format.specs.ResolvedViews.{resolved_view}
use Rattle.dial9_trace_format.specs.Resolving.{in_full, items_in_full, pairs_in_full}
use Rattle.dial9_trace_format.specs.declared.resolve.ResolvedValue.{ResolvedValue}
use Rattle.dial9_trace_format.specs.parts.Resolving.{as_pools}
use Rattle.dial9_trace_format.specs.parts.ResolvedViews.{resolved_views, resolved_pair_views}
use Rattle.reader_agreement.specs.parts.Lookups.{is_flat}
use Rattle.reader_agreement.proofs.InFull.{items_apart, of_list, of_map, pairs_apart}
use Rattle.reader_agreement.proofs.TwoLists.{one_differs, all_same, same_so_far}
use Rattle.reader_agreement.proofs.resolved.+is_in_full.Goals as goal
use Rattle.reader_agreement.proofs.resolved.+is_in_full.Goals.{are_pairs_in_full-then-keys}
use Rattle.reader_agreement.proofs.resolved.+is_in_full.Goals.{are_pairs_in_full-else-keys}

-- ---- items

abbrev all_items : Pools → List FieldValueRef → List ResolvedValue → Bool
all_items p xs ys = same_items (values_to_items (resolved_views ys)) (items_in_full p (values_to_items (ref_views xs)))

abbrev one_item : Pools → FieldValueRef → ResolvedValue → Bool
one_item p x y = same_value (resolved_view y) (in_full p (ref_view x))

pub are_in_full-returns-then-items-others : goal.are_in_full-returns-then-items-others
are_in_full-returns-then-items-others t c =
    let p = as_pools c.args.texts.now c.args.stacks.now in
    let others = c.as_slice-others in
    of_list p c.args.items.now c.args.found.now c.in-List.list others.result.now c.in-List.is others.ensures.value
    (items_apart p c.args.items.now others.result.now (λ e. omega (arith, c.if-items-others.true, e)))

pub are_in_full-loop-i-preserved : goal.are_in_full-loop-i-preserved
are_in_full-loop-i-preserved t c =
    let p = as_pools c.args.texts.now c.args.stacks.now in
    same_so_far (all_items p) (one_item p) (λ _ _ _ _. refl) c.args.items.now c.as_slice-others.result.now c.loop-i.i
    (record {
      inside = c.loop-i-test.true;
      alike = c.if-items-others.false;
      first = c.index-items-i.is;
      second = c.index-others-i.is;
      tells = c.is_in_full.ensures;
    })
    c.loop-i.invariant
    c.if-not-is_in_full.false

pub are_in_full-returns-then-not-is_in_full : goal.are_in_full-returns-then-not-is_in_full
are_in_full-returns-then-not-is_in_full t c =
    let p = as_pools c.args.texts.now c.args.stacks.now in
    let others = c.as_slice-others in
    of_list p c.args.items.now c.args.found.now c.in-List.list others.result.now c.in-List.is others.ensures.value
    (one_differs (all_items p) (one_item p) (λ _ _ _ _. refl) c.args.items.now others.result.now c.loop-i.i
    (record {
      inside = c.loop-i-test.true;
      alike = c.if-items-others.false;
      first = c.index-items-i.is;
      second = c.index-others-i.is;
      tells = c.is_in_full.ensures;
    })
    c.loop-i.invariant
    c.if-not-is_in_full.true)

pub are_in_full-returns : goal.are_in_full-returns
are_in_full-returns t c =
    let p = as_pools c.args.texts.now c.args.stacks.now in
    let others = c.as_slice-others in
    of_list p c.args.items.now c.args.found.now c.in-List.list others.result.now c.in-List.is others.ensures.value
    (all_same (all_items p) refl c.args.items.now others.result.now c.loop-i.i _ c.loop-i-test.false
    c.if-items-others.false c.loop-i.invariant)

-- ---- pairs

abbrev all_pairs :
    Pools → List (FieldValueRef × FieldValueRef) → List (ResolvedValue × ResolvedValue) → Bool
all_pairs p xs ys =
    same_pairs (values_to_pairs (resolved_pair_views ys)) (pairs_in_full p (values_to_pairs (ref_pair_views xs)))

abbrev one_pair : Pools → FieldValueRef × FieldValueRef → ResolvedValue × ResolvedValue → Bool
one_pair p x y = same_value (resolved_view y.0) (in_full p (ref_view x.0))
    && same_value (resolved_view y.1) (in_full p (ref_view x.1))

pub are_pairs_in_full-returns-then-pairs-others : goal.are_pairs_in_full-returns-then-pairs-others
are_pairs_in_full-returns-then-pairs-others t c =
    let p = as_pools c.args.texts.now c.args.stacks.now in
    let others = c.as_slice-others in
    of_map p c.args.pairs.now c.args.found.now c.in-Map.map others.result.now c.in-Map.is others.ensures.value
    (pairs_apart p c.args.pairs.now others.result.now (λ e. omega (arith, c.if-pairs-others.true, e)))

pub are_pairs_in_full-loop-i-preserved : goal.are_pairs_in_full-loop-i-preserved
are_pairs_in_full-loop-i-preserved t c =
    let p = as_pools c.args.texts.now c.args.stacks.now in
    let is : c.if-keys.value ≡ one_pair p c.index-pairs-i.result c.index-others-i.result = elim c.if-keys.branch [
      | are_pairs_in_full-then-keys w ↦ both_parts _ _ _ _ _ c.is_in_full-keys.ensures w.if-keys.true
          w.is_in_full.ensures w.value-is
      | are_pairs_in_full-else-keys w ↦ first_part _ _ _ _ c.is_in_full-keys.ensures w.if-keys.false w.value-is
    ] in
    same_so_far (all_pairs p) (one_pair p) (λ _ _ _ _. refl) c.args.pairs.now c.as_slice-others.result.now c.loop-i.i
    (record {
      inside = c.loop-i-test.true;
      alike = c.if-pairs-others.false;
      first = c.index-pairs-i.is;
      second = c.index-others-i.is;
      tells = is;
    })
    c.loop-i.invariant
    c.if-not-is_in_full.false

pub are_pairs_in_full-returns-then-not-is_in_full : goal.are_pairs_in_full-returns-then-not-is_in_full
are_pairs_in_full-returns-then-not-is_in_full t c =
    let p = as_pools c.args.texts.now c.args.stacks.now in
    let others = c.as_slice-others in
    let is : c.if-keys.value ≡ one_pair p c.index-pairs-i.result c.index-others-i.result = elim c.if-keys.branch [
      | are_pairs_in_full-then-keys w ↦ both_parts _ _ _ _ _ c.is_in_full-keys.ensures w.if-keys.true
          w.is_in_full.ensures w.value-is
      | are_pairs_in_full-else-keys w ↦ first_part _ _ _ _ c.is_in_full-keys.ensures w.if-keys.false w.value-is
    ] in
    of_map p c.args.pairs.now c.args.found.now c.in-Map.map others.result.now c.in-Map.is others.ensures.value
    (one_differs (all_pairs p) (one_pair p) (λ _ _ _ _. refl) c.args.pairs.now others.result.now c.loop-i.i
    (record {
      inside = c.loop-i-test.true;
      alike = c.if-pairs-others.false;
      first = c.index-pairs-i.is;
      second = c.index-others-i.is;
      tells = is;
    })
    c.loop-i.invariant
    c.if-not-is_in_full.true)

pub are_pairs_in_full-returns : goal.are_pairs_in_full-returns
are_pairs_in_full-returns t c =
    let p = as_pools c.args.texts.now c.args.stacks.now in
    let others = c.as_slice-others in
    of_map p c.args.pairs.now c.args.found.now c.in-Map.map others.result.now c.in-Map.is others.ensures.value
    (all_same (all_pairs p) refl c.args.pairs.now others.result.now c.loop-i.i _ c.loop-i-test.false
    c.if-pairs-others.false c.loop-i.invariant)

-- ---- a value

view_text_id : (id : InternedString) → ref_view (refs.PooledString id) ≡ pooled_text id.0
view_text_id id = search (rules, ref_lemmas)

view_stack_id : (id : InternedStackFrames) → ref_view (refs.PooledStackFrames id) ≡ pooled_stack id.0
view_stack_id id = search (rules, ref_lemmas)

stays_flat :
    (v : FieldValueRef) → ((id : InternedString) → v ≡ refs.PooledString id → ⊥)
    → ((id : InternedStackFrames) → v ≡ refs.PooledStackFrames id → ⊥)
    → ((l : DynamicListRef) → v ≡ refs.List l → ⊥) → ((m : DynamicMapRef) → v ≡ refs.Map m → ⊥)
    → is_flat (ref_view v) ≡ true
stays_flat v no_text no_stack no_list no_map = search (rules, ref_lemmas)

-- what is told of what a value is seen as
abbrev Tells : Pools → ResolvedValue → Value → Bool
Tells p found w = same_value (resolved_view found) (in_full p w)

pub is_in_full-returns-in-PooledString : goal.is_in_full-returns-in-PooledString
is_in_full-returns-in-PooledString t c =
    let p = as_pools c.args.texts.now c.args.stacks.now in
    c.holds_text.ensures ∙ sym (ap (λ (w : Value). Tells p c.args.found.now w)
    (ap ref_view c.in-PooledString.is ∙ view_text_id c.in-PooledString.id))

pub is_in_full-returns-in-PooledStackFrames : goal.is_in_full-returns-in-PooledStackFrames
is_in_full-returns-in-PooledStackFrames t c =
    let p = as_pools c.args.texts.now c.args.stacks.now in
    c.holds_stack.ensures ∙ sym (ap (λ (w : Value). Tells p c.args.found.now w)
    (ap ref_view c.in-PooledStackFrames.is ∙ view_stack_id c.in-PooledStackFrames.id))

pub is_in_full-returns-in-List : goal.is_in_full-returns-in-List
is_in_full-returns-in-List t c =
    let p = as_pools c.args.texts.now c.args.stacks.now in
    c.are_in_full.ensures
    ∙ ap (λ (vs : List FieldValueRef). Tells p c.args.found.now (list (values_to_items (ref_views vs))))
    c.items_of.ensures
    ∙ sym (ap (λ (w : Value). Tells p c.args.found.now w) (ap ref_view c.in-List.is ∙ view_list_ref c.in-List.items))

pub is_in_full-returns-in-Map : goal.is_in_full-returns-in-Map
is_in_full-returns-in-Map t c =
    let p = as_pools c.args.texts.now c.args.stacks.now in
    c.are_pairs_in_full.ensures
    ∙ ap (λ (ps : List (FieldValueRef × FieldValueRef)).
    Tells p c.args.found.now (map (values_to_pairs (ref_pair_views ps)))) c.pairs_of.ensures
    ∙ sym (ap (λ (w : Value). Tells p c.args.found.now w) (ap ref_view c.in-Map.is ∙ view_map_ref c.in-Map.pairs))

pub is_in_full-returns-in_default : goal.is_in_full-returns-in_default
is_in_full-returns-in_default t c =
    let d = c.in_default in
    let p = as_pools c.args.texts.now c.args.stacks.now in
    c.is_flat.ensures p (stays_flat c.args.value.now d.not-PooledString d.not-PooledStackFrames d.not-List d.not-Map)
