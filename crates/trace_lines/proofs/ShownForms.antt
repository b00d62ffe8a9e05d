-- The text of a value that is shown as it is or in full, from the values that it holds.
use Rattle.std.proofs.Common.{◌≡◌, List, ◌++◌, map as list_map, codes, refl, ap, ◌∙◌}
use Rattle.std.specs.List.{join_by}
use Rattle.trace_values.specs.Values.{Value, Items, Pairs, list, map}
use Rattle.trace_values.specs.Reading.{values_to_items, values_to_pairs}
use Rattle.dial9_trace_format.specs.parts.Resolving.{as_pools}
use Rattle.dial9_trace_format.proofs.ValuesResolved.{items_seen, pairs_seen}
use Rattle.trace_lines.specs.declared.value.Shown.{Shown}
use Rattle.trace_lines.specs.declared.value.Shown.TheVariants.{Plain, InFull}
use Rattle.trace_lines.specs.parts.InFull.{shown_in}
use Rattle.trace_lines.specs.Lines.{value_text}
use Rattle.trace_lines.proofs.ValueTexts.{text_of_list, text_of_map}

-- what is shown of what is seen
abbrev pub shown_as : {V : Type 0} → Shown → (V → Value) → V → Value
shown_as form see v = shown_in form (see v)

-- a list is shown item by item
shown_items :
    {V : Type 0} (form : Shown) (see : V → Value) (vs : List V) →
    shown_in form (list (values_to_items (list_map see vs)))
    ≡ list (values_to_items (list_map (λ v. shown_in form (see v)) vs))
shown_items Plain see vs = refl
shown_items (InFull strings stacks) see vs =
    ap (λ (i : Items). list i) (items_seen see (as_pools strings.now stacks.now) vs)

-- a map is shown pair by pair
shown_pairs :
    {V : Type 0} (form : Shown) (see : V → Value) (ps : List (V × V)) →
    shown_in form (map (values_to_pairs (list_map (λ p. (see p.0, see p.1)) ps)))
    ≡ map (values_to_pairs (list_map (λ p. (shown_in form (see p.0), shown_in form (see p.1))) ps))
shown_pairs Plain see ps = refl
shown_pairs (InFull strings stacks) see ps =
    ap (λ (q : Pairs). map q) (pairs_seen see (as_pools strings.now stacks.now) ps)

-- how a list is shown, item after item
pub text_of_shown_list :
    {V : Type 0} (form : Shown) (see : V → Value) (vs : List V) →
    value_text (shown_in form (list (values_to_items (list_map see vs))))
    ≡ codes "List:[" ++ (join_by (λ v. value_text (shown_in form (see v))) (codes ",") vs ++ codes "]")
text_of_shown_list form see vs =
    ap (λ (v : Value). value_text v) (shown_items form see vs) ∙ text_of_list (λ v. shown_in form (see v)) vs

-- how a map is shown, pair after pair
pub text_of_shown_map :
    {V : Type 0} (form : Shown) (see : V → Value) (ps : List (V × V)) →
    value_text (shown_in form (map (values_to_pairs (list_map (λ p. (see p.0, see p.1)) ps))))
    ≡ codes "Map:{" ++ (join_by (λ p. value_text (shown_in form (see p.0)) ++ codes "="
    ++ value_text (shown_in form (see p.1))) (codes ",") ps ++ codes "}")
text_of_shown_map form see ps =
    ap (λ (v : Value). value_text v) (shown_pairs form see ps)
    ∙ text_of_map (λ p. (shown_in form (see p.0), shown_in form (see p.1))) ps
