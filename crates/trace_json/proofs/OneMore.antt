-- One value more of those that were written.
use Rattle.std.proofs.Common.{◌≡◌, ℕ, suc, ◌+◌, ◌<◌, ◌≤◌, List, [], ◌∷◌, ◌++◌, length, take, drop, get_or}
use Rattle.std.proofs.Common.{map as list_map, refl, sym, ap, subst, ◌∙◌, append_assoc, arith}
use Rattle.std.proofs.lemmas.List.{take_more, take_all, drop-drop, map_push, length-map, length-take-le}
use Rattle.std.proofs.Math.Seq.{drop-nil}
use Rattle.json.specs.Json.{Json}
use Rattle.json.specs.Token.{Token, key}
use Rattle.json.specs.Tree.{json_tokens}
use Rattle.trace_values.specs.Values.{Value}
use Rattle.trace_values.specs.Reading.{values_to_items, values_to_pairs}
use Rattle.trace_wire.specs.Runs.{Pools}
use Rattle.trace_values.proofs.CompareLoops.{ElementAt}
use Rattle.trace_json.specs.EventJson.{IsValueJson, AreItemsJson, ArePairsJson, IsPairOf, AreFieldsJson}
use Rattle.trace_json.specs.Put.{Stands}
use Rattle.trace_json.specs.parts.Put.{StandAll, member_tokens}
use Rattle.trace_json.proofs.Tokens.{one_more}

-- one item more
pub items_more :
    (p : Pools) (vs : List Value) (v : Value) (js : List Json) (j : Json) → AreItemsJson p (values_to_items vs) js →
    IsValueJson p v j → AreItemsJson p (values_to_items (vs ++ v ∷ [])) (js ++ j ∷ [])
items_more p [] v js j none is = (j, [], ap (λ (l : List Json). l ++ j ∷ []) none, is, refl)
items_more p (u ∷ us) v js j all is =
    (all.0, all.1 ++ j ∷ [], ap (λ (l : List Json). l ++ j ∷ []) all.2, all.3, items_more p us v all.1 j all.4 is)

-- what a pair of a map is as JSON
abbrev pub IsPairJson : Pools → Value × Value → Json → Type 0
IsPairJson p x = IsPairOf (IsValueJson p x.0) (IsValueJson p x.1)

-- one pair more
pub pairs_more :
    (p : Pools) (ps : List (Value × Value)) (x : Value × Value) (js : List Json) (j : Json) →
    ArePairsJson p (values_to_pairs ps) js → IsPairJson p x j →
    ArePairsJson p (values_to_pairs (ps ++ x ∷ [])) (js ++ j ∷ [])
pairs_more p [] x js j none is = (j, [], ap (λ (l : List Json). l ++ j ∷ []) none, is, refl)
pairs_more p (y ∷ ys) x js j all is =
    (all.0, all.1 ++ j ∷ [], ap (λ (l : List Json). l ++ j ∷ []) all.2, all.3, pairs_more p ys x all.1 j all.4 is)

drop_two : (n : ℕ) (xs : List (List ℕ)) → drop (suc n) xs ≡ drop n (drop 1 xs)
drop_two n [] = drop-nil (suc n) ∙ sym (ap (drop n) (drop-nil 1) ∙ drop-nil n)
drop_two n (x ∷ xs) = refl

-- one field more
pub fields_more :
    (p : Pools) (names : List (List ℕ)) (vs : List Value) (v : Value) (ms : List (List ℕ × Json)) (name : List ℕ)
    (j : Json) →
    name ≡ get_or (drop (length vs) names) 0 [] → AreFieldsJson p names vs ms → IsValueJson p v j →
    AreFieldsJson p names (vs ++ v ∷ []) (ms ++ (name, j) ∷ [])
fields_more p names [] v ms name j here none is = (
  j,
  [],
  ap (λ (l : List (List ℕ × Json)). l ++ (name, j) ∷ []) none
      ∙ ap (λ (n : List ℕ). (n, j) ∷ []) here,
  is,
  refl,
)
fields_more p names (u ∷ us) v ms name j here all is = (
  all.0,
  all.1 ++ (name, j) ∷ [],
  ap (λ (l : List (List ℕ × Json)). l ++ (name, j) ∷ []) all.2,
  all.3,
  fields_more p (drop 1 names) us v all.1 name j
      (here ∙ ap (λ (l : List (List ℕ)). get_or l 0 []) (drop_two (length us) names)) all.4 is,
)

-- ---- as loops go over them

-- what is seen of one item more
pub seen_more :
    {A B : Type 0} (seen : A → B) (xs : List A) (i : ℕ) (x : A) → i < length xs → x ≡ get_or xs i x →
    list_map seen (take (i + 1) xs) ≡ list_map seen (take i xs) ++ seen x ∷ []
seen_more {A} seen xs i x lt is =
    ap (list_map seen) (take_more xs i x lt ∙ ap (λ (y : A). take i xs ++ y ∷ []) (sym is))
    ∙ map_push seen (take i xs) x

-- the items so far were put, and the next one
pub item_stands :
    {A : Type 0} (p : Pools) (seen : A → Value) (xs : List A) (i : ℕ) {x : A} {start old : List Token}
    (new : List Token) →
    i < length xs → x ≡ get_or xs i x →
    StandAll json_tokens (AreItemsJson p (values_to_items (list_map seen (take i xs)))) start old →
    Stands (IsValueJson p (seen x)) old new →
    StandAll json_tokens (AreItemsJson p (values_to_items (list_map seen (take (i + 1) xs)))) start new
item_stands p seen xs i {x} {start} {old} new lt is s one =
    one_more json_tokens (AreItemsJson p (values_to_items (list_map seen (take i xs))))
    (AreItemsJson p (values_to_items (list_map seen (take (i + 1) xs)))) start old new one.json s one.tokens
    (λ js are. subst (λ (vs : List Value). AreItemsJson p (values_to_items vs) (js ++ one.json ∷ []))
    (sym (seen_more seen xs i x lt is)) (items_more p (list_map seen (take i xs)) (seen x) js one.json are one.is_so))

-- the pairs so far were put, and the next one
pub pair_stands_in :
    {A : Type 0} (p : Pools) (seen : A → Value × Value) (xs : List A) (i : ℕ) {x : A} {start old : List Token}
    (new : List Token) →
    i < length xs → x ≡ get_or xs i x →
    StandAll json_tokens (ArePairsJson p (values_to_pairs (list_map seen (take i xs)))) start old →
    Stands (IsPairJson p (seen x)) old new →
    StandAll json_tokens (ArePairsJson p (values_to_pairs (list_map seen (take (i + 1) xs)))) start new
pair_stands_in p seen xs i {x} {start} {old} new lt is s one =
    one_more json_tokens (ArePairsJson p (values_to_pairs (list_map seen (take i xs))))
    (ArePairsJson p (values_to_pairs (list_map seen (take (i + 1) xs)))) start old new one.json s one.tokens
    (λ js are. subst (λ (vs : List (Value × Value)). ArePairsJson p (values_to_pairs vs) (js ++ one.json ∷ []))
    (sym (seen_more seen xs i x lt is)) (pairs_more p (list_map seen (take i xs)) (seen x) js one.json are one.is_so))

-- the first of the names that are left from an index on
pub record NameAt (names left : List (List ℕ)) (i : ℕ) (name : List ℕ) : Type 0 where
  pub rest : left ≡ drop i names
  pub named : name ≡ get_or left 0 []

-- a field after its name
pub field_stands :
    {A : Type 0} (p : Pools) (names : List (List ℕ)) {left : List (List ℕ)} (seen : A → Value) (xs : List A) (i : ℕ)
    {x : A}
    {name : List ℕ} {start old one : List Token} {new : List Token} →
    ElementAt xs i x → NameAt names left i name →
    StandAll member_tokens (AreFieldsJson p names (list_map seen (take i xs))) start old →
    one ≡ old ++ key name ∷ [] → Stands (IsValueJson p (seen x)) one new →
    StandAll member_tokens (AreFieldsJson p names (list_map seen (take (i + 1) xs))) start new
field_stands p names seen xs i {x} {name} {start} {old} {new} at called s keyed v =
    let vs = list_map seen (take i xs) in
    let j = v.json in
    let count : length vs ≡ i = length-map (take i xs) seen ∙ length-take-le i xs (omega (arith, at.inside)) in
    let here : name ≡ get_or (drop (length vs) names) 0 [] =
    called.named ∙ ap (λ (l : List (List ℕ)). get_or l 0 []) (called.rest ∙ ap (λ (k : ℕ). drop k names) (sym count)) in
    let put : new ≡ old ++ member_tokens (name, j) =
    v.tokens ∙ ap (λ (t : List Token). t ++ json_tokens j) keyed
    ∙ append_assoc old (key name ∷ []) (json_tokens j) in
    one_more member_tokens (AreFieldsJson p names vs)
    (AreFieldsJson p names (list_map seen (take (i + 1) xs))) start old new (name, j) s put
    (λ ms are. subst (λ (us : List Value). AreFieldsJson p names us (ms ++ (name, j) ∷ []))
    (sym (seen_more seen xs i x at.inside at.is)) (fields_more p names vs (seen x) ms name j here are v.is_so))

-- what is left after one more
pub drop_next : (i : ℕ) (xs : List (List ℕ)) → drop 1 (drop i xs) ≡ drop (i + 1) xs
drop_next i xs = drop-drop 1 i xs

-- all of them
pub all_stand :
    {A B X : Type 0} (each : A → List Token) (are : List X → List A → Type 0) (seen : B → X) (xs : List B) (i : ℕ)
    (start new : List Token) → length xs ≤ i →
    StandAll each (are (list_map seen (take i xs))) start new → StandAll each (are (list_map seen xs)) start new
all_stand {B} each are seen xs i start new le s =
    subst (λ (l : List B). StandAll each (are (list_map seen l)) start new) (take_all i xs le) s
