-- Values in full beside those that a resolved event holds.
use Rattle.std.proofs.Common.{◌≡◌, ℕ, Bool, false, List, length, sym, ap, ◌∙◌, map as list_map, String, Global, Vec}
use Rattle.std.proofs.lemmas.List.{length-map}
use Rattle.trace_values.specs.Equal.{same_value, same_items, same_pairs}
use Rattle.trace_values.specs.Reading.{values_to_items, values_to_pairs}
use Rattle.trace_values.specs.Refs.{ref_view, ref_views, ref_pair_views}
use Rattle.trace_values.specs.Values.{Value, Items, Pairs, list, map}
use Rattle.trace_values.specs.declared.types.borrowed.FieldValueRef.{FieldValueRef}
use Rattle.trace_values.proofs.DifferentLengths.{items_differ, pairs_differ}
use Rattle.trace_wire.specs.Runs.{Pools}
use Rattle.trace_wire.specs.Schemas.{Field}
use Rattle.dial9_trace_format.specs.ResolvedViews.{entry_views, resolved_view, same_entry_values}
use Rattle.dial9_trace_format.specs.Resolving.{in_full, items_in_full, pairs_in_full, under_names}
use Rattle.dial9_trace_format.specs.ShownEvents.{names_of}
use Rattle.dial9_trace_format.specs.declared.resolve.ResolvedValue.{ResolvedValue}
use Rattle.dial9_trace_format.specs.declared.resolve.ResolvedValue.TheViews.{List as ResolvedList, Map as ResolvedMap}
use Rattle.dial9_trace_format.specs.parts.ResolvedViews.{resolved_views, resolved_pair_views}
use Rattle.dial9_trace_format.proofs.ValuesResolved.{items_seen, pairs_seen, view_resolved_list, view_resolved_map}

-- ---- items and pairs of lists of different lengths

-- items in full are not those of a list that has more or fewer
pub items_apart :
    (p : Pools) (vs : List FieldValueRef) (ws : List ResolvedValue) → (length vs ≡ length ws → ⊥)
    → false ≡ same_items (values_to_items (resolved_views ws)) (items_in_full p (values_to_items (ref_views vs)))
items_apart p vs ws h =
    items_differ (resolved_views ws) (list_map (λ v. in_full p (ref_view v)) vs)
    (λ e. h (sym (length-map vs _) ∙ sym e ∙ length-map ws _))
    ∙ sym (ap (λ (us : Items). same_items (values_to_items (resolved_views ws)) us) (items_seen ref_view p vs))

-- nor are pairs
pub pairs_apart :
    (p : Pools) (vs : List (FieldValueRef × FieldValueRef)) (ws : List (ResolvedValue × ResolvedValue))
    → (length vs ≡ length ws → ⊥)
    → false ≡ same_pairs (values_to_pairs (resolved_pair_views ws))
    (pairs_in_full p (values_to_pairs (ref_pair_views vs)))
pairs_apart p vs ws h =
    pairs_differ (resolved_pair_views ws) (list_map (λ x. (in_full p (ref_view x.0), in_full p (ref_view x.1))) vs)
    (λ e. h (sym (length-map vs _) ∙ sym e ∙ length-map ws _))
    ∙ sym (ap (λ (us : Pairs). same_pairs (values_to_pairs (resolved_pair_views ws)) us) (pairs_seen ref_view p vs))

-- ---- a list, a map and a map of texts that were found

-- what is told of items is told of the list that was found
pub of_list :
    (p : Pools) (items : List FieldValueRef) (found : ResolvedValue) (v : Vec ResolvedValue Global)
    (others : List ResolvedValue) {r : Bool} → found ≡ ResolvedList v → others ≡ v.items
    → r ≡ same_items (values_to_items (resolved_views others)) (items_in_full p (values_to_items (ref_views items)))
    → r ≡ same_value (resolved_view found) (list (items_in_full p (values_to_items (ref_views items))))
of_list p items found v others is same tells =
    let wanted = items_in_full p (values_to_items (ref_views items)) in
    tells ∙ ap (λ (ys : List ResolvedValue). same_items (values_to_items (resolved_views ys)) wanted) same
    ∙ sym (ap (λ (w : Value). same_value w (list wanted)) (ap resolved_view is ∙ view_resolved_list v))

-- and what is told of pairs of the map
pub of_map :
    (p : Pools) (pairs : List (FieldValueRef × FieldValueRef)) (found : ResolvedValue)
    (v : Vec (ResolvedValue × ResolvedValue) Global) (others : List (ResolvedValue × ResolvedValue)) {r : Bool}
    → found ≡ ResolvedMap v → others ≡ v.items
    → r ≡ same_pairs (values_to_pairs (resolved_pair_views others))
    (pairs_in_full p (values_to_pairs (ref_pair_views pairs)))
    → r ≡ same_value (resolved_view found) (map (pairs_in_full p (values_to_pairs (ref_pair_views pairs))))
of_map p pairs found v others is same tells =
    let wanted = pairs_in_full p (values_to_pairs (ref_pair_views pairs)) in
    tells
    ∙ ap (λ (ys : List (ResolvedValue × ResolvedValue)). same_pairs (values_to_pairs (resolved_pair_views ys)) wanted)
    same
    ∙ sym (ap (λ (w : Value). same_value w (map wanted)) (ap resolved_view is ∙ view_resolved_map v))

-- ---- entries, each with its name

abbrev pub Entry : Type 0
Entry = String Global × ResolvedValue

-- what is left of the fields, in full
abbrev pub entries_in : Pools → List Field → List FieldValueRef → List (List ℕ × Value)
entries_in p names values = under_names (names_of names) (list_map (in_full p) (ref_views values))

-- whether the entries that are left are those
abbrev pub are_left : Pools → List Field → List FieldValueRef → List Entry → Bool
are_left p names values entries = same_entry_values (entry_views entries) (entries_in p names values)
