-- Lists of values of different lengths, owned ones and such as stay in the bytes, are not the same.
use Rattle.std.proofs.Common.{◌≡◌, suc, Bool, false, List, [], ◌∷◌, refl, sym, ap, ◌∙◌, length}
use Rattle.std.proofs.lemmas.List.{length-map}
use Rattle.std.specs.Cmp.Lexicographic.{pointwise}
use Rattle.trace_values.specs.Equal.{same_value, same_items, same_pairs}
use Rattle.trace_values.specs.Reading.{values_to_items, values_to_pairs}
use Rattle.trace_values.specs.Refs.{ref_view, ref_views, ref_pair_views}
use Rattle.trace_values.specs.ValueViews.{view, views, pair_views}
use Rattle.trace_values.specs.declared.types.borrowed.FieldValueRef.{FieldValueRef}
use Rattle.trace_values.specs.declared.types.field_value.FieldValue.{FieldValue}
use Rattle.trace_values.proofs.DifferentLengths.{no_more, items_differ, pairs_differ}

-- tests of two lists, element after element, of lists of different lengths
pub apart :
    {A B : Type 0} (one : A → B → Bool) (xs : List A) (ys : List B) → (length xs ≡ length ys → ⊥)
    → false ≡ pointwise one xs ys
apart one [] [] h = absurd (h refl)
apart one [] (y ∷ ys) h = refl
apart one (x ∷ xs) [] h = refl
apart one (x ∷ xs) (y ∷ ys) h = no_more (one x y) _ (apart one xs ys (λ e. h (ap suc e)))

-- values are not the same
pub values_apart : (vs : List FieldValue) (ws : List FieldValueRef) → (length vs ≡ length ws → ⊥)
    → false ≡ pointwise same_value (views vs) (ref_views ws)
values_apart vs ws h = apart same_value (views vs) (ref_views ws)
    (λ e. h (sym (length-map vs view) ∙ e ∙ length-map ws ref_view))

-- nor are items
pub items_apart : (vs : List FieldValue) (ws : List FieldValueRef) → (length vs ≡ length ws → ⊥)
    → false ≡ same_items (values_to_items (views vs)) (values_to_items (ref_views ws))
items_apart vs ws h = items_differ (views vs) (ref_views ws)
    (λ e. h (sym (length-map vs view) ∙ e ∙ length-map ws ref_view))

-- nor are pairs
pub pairs_apart : (ps : List (FieldValue × FieldValue)) (qs : List (FieldValueRef × FieldValueRef))
    → (length ps ≡ length qs → ⊥)
    → false ≡ same_pairs (values_to_pairs (pair_views ps)) (values_to_pairs (ref_pair_views qs))
pairs_apart ps qs h = pairs_differ (pair_views ps) (ref_pair_views qs)
    (λ e. h (sym (length-map ps _) ∙ e ∙ length-map qs _))
