-- The values of an event.
use Rattle.std.proofs.Common.{◌≡◌, ℕ, ◌+◌, ◌<◌, ◌≤◌, nat_lt, true, List, [], ◌∷◌, ◌++◌, length, get_or, take, drop}
use Rattle.std.proofs.Common.{ap, sym, ◌∙◌, arith}
use Rattle.std.proofs.lemmas.Bool.{ltb-true}
use Rattle.std.proofs.lemmas.List.{at_drop_all, drop_more, map-append, take-append-drop}
use Rattle.trace_values.specs.declared.types.field_value.FieldValue.{FieldValue}
use Rattle.trace_values.specs.ValueViews.{view, views}

-- the number of an index, and those after it; there are at least so many
pub number_more :
    (xs : List ℕ) (size : ℕ) → size ≤ length xs → (i : ℕ) → nat_lt i size ≡ true → (later : List ℕ) →
    later ≡ drop (i + 1) xs → get_or xs i 0 ∷ later ≡ drop i xs
number_more xs size enough i below later others =
    let low : i < size = ltb-true i size below in
    ap (λ (ys : List ℕ). get_or xs i 0 ∷ ys) others ∙ sym (drop_more xs i 0 (omega arith))

-- and none after the last
pub no_number_more : (xs : List ℕ) (size : ℕ) → length xs ≤ size → [] ≡ drop size xs
no_number_more xs size all = sym (at_drop_all (λ (ys : List ℕ). ys) xs size all)

-- the values before an index, and those from it on
pub views_parts : (xs : List FieldValue) (i : ℕ) → views (take i xs) ++ views (drop i xs) ≡ views xs
views_parts xs i = sym (map-append view (take i xs) (drop i xs)) ∙ ap views (take-append-drop i xs)
