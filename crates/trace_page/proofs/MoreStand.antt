-- One thing more of those that were written.
use Rattle.std.proofs.Common.{◌≡◌, ℕ, ◌+◌, List, [], ◌∷◌, ◌++◌, take, map as list_map, refl, sym}
use Rattle.std.proofs.Common.{ap, subst, ◌∙◌, append_assoc, append-nil}
use Rattle.std.proofs.lemmas.Grind.{flat_map-append}
use Rattle.std.specs.Fmt.{decimal}
use Rattle.std.specs.List.{AllZip, flat_map}
use Rattle.json.specs.Json.{Json}
use Rattle.json.specs.Token.{Token, number}
use Rattle.json.specs.Tree.{json_tokens}
use Rattle.trace_values.specs.Values.{Value}
use Rattle.trace_values.specs.Reading.{values_to_items, values_to_pairs}
use Rattle.trace_values.proofs.CompareLoops.{ElementAt}
use Rattle.trace_wire.specs.Runs.{Pools}
use Rattle.trace_json.specs.Put.{Stands}
use Rattle.trace_json.specs.parts.Put.{StandAll}
use Rattle.trace_json.proofs.OneMore.{seen_more}
use Rattle.trace_json.proofs.Tokens.{one_more}
use Rattle.trace_page.specs.PageValues.{Tables, IsIndexOf, IsPageValue, ArePageItems, ArePagePairs, ArePairTexts}
use Rattle.trace_page.specs.PageValues.{kind_tag, index_json, text_or_digits}
use Rattle.trace_page.specs.parts.Writing.{IsLonger, Grows}
use Rattle.trace_page.proofs.Growing.{zip_weaker, zip_push, items_grow, pairs_grow, pair_texts_grow, value_grows}
use Rattle.trace_page.proofs.Growing.{index_grows, longer_trans, grows_trans}

-- ---- one by one

-- one more of a list, of which something else is so where something was so
pub zip_stands :
    {A B : Type 0} (seen : A → B) (R S : B → Json → Type 0) → ((x : B) (j : Json) → R x j → S x j) → (xs : List A)
    (i : ℕ) {x : A} {start old : List Token} (new : List Token) → ElementAt xs i x →
    StandAll json_tokens (AllZip R (list_map seen (take i xs))) start old → Stands (S (seen x)) old new →
    StandAll json_tokens (AllZip S (list_map seen (take (i + 1) xs))) start new
zip_stands {B = B} seen R S grow xs i {x} {start} {old} new at s one =
    let before = list_map seen (take i xs) in
    one_more json_tokens (AllZip R before) (AllZip S (list_map seen (take (i + 1) xs))) start old new one.json s
    one.tokens
    (λ js are. subst (λ (l : List B). AllZip S l (js ++ one.json ∷ [])) (sym (seen_more seen xs i x at.inside at.is))
    (zip_push S before js (seen x) one.json (zip_weaker R S grow before js are) one.is_so))

-- ---- several at once

-- these after those that stood there
pub some_more :
    (are next : List Json → Type 0) (start old new : List Token) (ys : List Json) → StandAll json_tokens are start old →
    new ≡ old ++ flat_map json_tokens ys → ((xs : List Json) → are xs → next (xs ++ ys)) →
    StandAll json_tokens next start new
some_more are next start old new ys s e more = record {
  all = s.all ++ ys;
  are_so = more s.all s.are_so;
  tokens = e ∙ ap (λ (t : List Token). t ++ flat_map json_tokens ys) s.tokens
      ∙ append_assoc start (flat_map json_tokens s.all) (flat_map json_tokens ys)
      ∙ ap (λ (t : List Token). start ++ t) (sym (flat_map-append json_tokens s.all ys));
}

two_tokens : (old x y : List Token) → (old ++ x) ++ y ≡ old ++ (x ++ (y ++ []))
two_tokens old x y = simp (append_assoc, append-nil)

-- two were written
pub two_put : (old : List Token) {one : List Token} (new : List Token) (i j : Json) → one ≡ old ++ json_tokens i →
    new ≡ one ++ json_tokens j → new ≡ old ++ flat_map json_tokens (i ∷ j ∷ [])
two_put old new i j a b =
    b ∙ ap (λ (t : List Token). t ++ json_tokens j) a ∙ two_tokens old (json_tokens i) (json_tokens j)

four_tokens : (old w x y z : List Token) → (((old ++ w) ++ x) ++ y) ++ z ≡ old ++ (w ++ (x ++ (y ++ (z ++ []))))
four_tokens old w x y z = simp (append_assoc, append-nil)

-- ---- items of a list

items_push :
    (t : Tables) (p : Pools) (vs : List Value) (v : Value) (js : List Json) (j : Json) →
    ArePageItems t p (values_to_items vs) js → IsPageValue t p v j →
    ArePageItems t p (values_to_items (vs ++ v ∷ [])) (js ++ index_json (kind_tag v) ∷ j ∷ [])
items_push t p [] v js j none is =
    (j, [], ap (λ (l : List Json). l ++ index_json (kind_tag v) ∷ j ∷ []) none, is, refl)
items_push t p (u ∷ us) v js j all is = (
  all.0,
  all.1 ++ index_json (kind_tag v) ∷ j ∷ [],
  ap (λ (l : List Json). l ++ index_json (kind_tag v) ∷ j ∷ []) all.2,
  all.3,
  items_push t p us v all.1 j all.4 is,
)

-- a tag, which is that of a value, and the value
pub record TaggedPut (t : Tables) (p : Pools) (v : Value) (old new : List Token) : Type 0 where
  pub one : List Token
  pub tag : one ≡ old ++ number (decimal (kind_tag v)) ∷ []
  pub value : Stands (IsPageValue t p v) one new

-- a tag that is told otherwise, and then the value
pub tagged :
    (t : Tables) (p : Pools) (v : Value) (old : List Token) {one : List Token} (new : List Token) (n : ℕ) →
    n ≡ kind_tag v → one ≡ old ++ number (decimal n) ∷ [] → Stands (IsPageValue t p v) one new → TaggedPut t p v old new
tagged t p v old {one} new n is put s = record {
  one = one;
  tag = put ∙ ap (λ (m : ℕ). old ++ number (decimal m) ∷ []) is;
  value = s;
}

-- the items so far were put, and the next one after its tag
pub item_stands :
    {A : Type 0} {t u : Tables} → Grows t u → (p : Pools) (seen : A → Value) (xs : List A) (i : ℕ) {x : A}
    {start old : List Token} (new : List Token) → ElementAt xs i x →
    StandAll json_tokens (ArePageItems t p (values_to_items (list_map seen (take i xs)))) start old →
    TaggedPut u p (seen x) old new →
    StandAll json_tokens (ArePageItems u p (values_to_items (list_map seen (take (i + 1) xs)))) start new
item_stands {t = t} {u = u} grow p seen xs i {x} {start} {old} new at s put =
    let before = list_map seen (take i xs) in
    let j = put.value.json in
    let own : List Json = index_json (kind_tag (seen x)) ∷ j ∷ [] in
    some_more (ArePageItems t p (values_to_items before))
    (ArePageItems u p (values_to_items (list_map seen (take (i + 1) xs)))) start old new own s
    (two_put old new (index_json (kind_tag (seen x))) j put.tag put.value.tokens)
    (λ js are. subst (λ (l : List Value). ArePageItems u p (values_to_items l) (js ++ own))
    (sym (seen_more seen xs i x at.inside at.is))
    (items_push u p before (seen x) js j (items_grow t u grow p (values_to_items before) js are) put.value.is_so))

-- ---- pairs of a map

-- a pair as it stands there
abbrev pub pair_json_list : Value × Value → Json → Json → List Json
pair_json_list x i j = index_json (kind_tag x.0) ∷ i ∷ index_json (kind_tag x.1) ∷ j ∷ []

pairs_push :
    (t : Tables) (p : Pools) (ps : List (Value × Value)) (x : Value × Value) (js : List Json) (i j : Json) →
    ArePagePairs t p (values_to_pairs ps) js → IsPageValue t p x.0 i → IsPageValue t p x.1 j →
    ArePagePairs t p (values_to_pairs (ps ++ x ∷ [])) (js ++ pair_json_list x i j)
pairs_push t p [] x js i j none is also =
    (i, j, [], ap (λ (l : List Json). l ++ pair_json_list x i j) none, is, also, refl)
pairs_push t p (y ∷ ys) x js i j all is also = (
  all.0,
  all.1,
  all.2 ++ pair_json_list x i j,
  ap (λ (l : List Json). l ++ pair_json_list x i j) all.3,
  all.4,
  all.5,
  pairs_push t p ys x all.2 i j all.6 is also,
)

four_put : (old : List Token) {one two : List Token} (new : List Token) (x : Value × Value) (i j : Json) →
    one ≡ old ++ number (decimal (kind_tag x.0)) ∷ [] → two ≡ one ++ json_tokens i →
    new ≡ (two ++ number (decimal (kind_tag x.1)) ∷ []) ++ json_tokens j →
    new ≡ old ++ flat_map json_tokens (pair_json_list x i j)
four_put old new x i j a b c =
    c ∙ ap (λ (t : List Token). (t ++ number (decimal (kind_tag x.1)) ∷ []) ++ json_tokens j)
    (b ∙ ap (λ (t : List Token). t ++ json_tokens i) a)
    ∙ four_tokens old (number (decimal (kind_tag x.0)) ∷ []) (json_tokens i) (number (decimal (kind_tag x.1)) ∷ [])
    (json_tokens j)

-- tables that grew twice
pub record GrowTwice (t u w : Tables) : Type 0 where
  pub first : Grows t u
  pub second : Grows u w

pub grow_twice : {t u w : Tables} → Grows t u → Grows u w → GrowTwice t u w
grow_twice a b = record { first = a; second = b }

-- the pairs so far were put, and the next one, each of both after its tag
pub pair_stands :
    {A : Type 0} {t u w : Tables} → GrowTwice t u w → (p : Pools) (seen : A → Value × Value) (xs : List A)
    (i : ℕ) {x : A} {start old mid new : List Token} → ElementAt xs i x →
    StandAll json_tokens (ArePagePairs t p (values_to_pairs (list_map seen (take i xs)))) start old →
    TaggedPut u p (seen x).0 old mid → TaggedPut w p (seen x).1 mid new →
    StandAll json_tokens (ArePagePairs w p (values_to_pairs (list_map seen (take (i + 1) xs)))) start new
pair_stands {t = t} {u = u} {w = w} grow p seen xs i {x} {start} {old} {mid} {new} at s key value =
    let before = list_map seen (take i xs) in
    let k = key.value.json in
    let j = value.value.json in
    some_more (ArePagePairs t p (values_to_pairs before))
    (ArePagePairs w p (values_to_pairs (list_map seen (take (i + 1) xs)))) start old new
    (pair_json_list (seen x) k j) s
    (four_put old new (seen x) k j key.tag key.value.tokens
    (value.value.tokens ∙ ap (λ (t : List Token). t ++ json_tokens j) value.tag))
    (λ js are. subst (λ (l : List (Value × Value)). ArePagePairs w p (values_to_pairs l)
    (js ++ pair_json_list (seen x) k j)) (sym (seen_more seen xs i x at.inside at.is))
    (pairs_push w p before (seen x) js k j
    (pairs_grow t w (grows_trans t u w grow.first grow.second) p (values_to_pairs before) js are)
    (value_grows u w grow.second p (seen x).0 k key.value.is_so) value.value.is_so))

-- ---- pairs of texts

texts_push :
    (strings : List (List ℕ)) (ps : List (List ℕ × List ℕ)) (x : List ℕ × List ℕ) (js : List Json) (i j : Json) →
    ArePairTexts strings ps js → IsIndexOf strings (text_or_digits x.0) i →
    IsIndexOf strings (text_or_digits x.1) j → ArePairTexts strings (ps ++ x ∷ []) (js ++ i ∷ j ∷ [])
texts_push strings [] x js i j none is also =
    (i, j, [], ap (λ (l : List Json). l ++ i ∷ j ∷ []) none, is, also, refl)
texts_push strings (p ∷ ps) x js i j all is also = (
  all.0,
  all.1,
  all.2 ++ i ∷ j ∷ [],
  ap (λ (l : List Json). l ++ i ∷ j ∷ []) all.3,
  all.4,
  all.5,
  texts_push strings ps x all.2 i j all.6 is also,
)

-- the index of a text that is told otherwise
pub index_as : (xs : List (List ℕ)) (s t : List ℕ) {old new : List Token} → s ≡ t →
    Stands (IsIndexOf xs (text_or_digits s)) old new → Stands (IsIndexOf xs (text_or_digits t)) old new
index_as xs s t {old} {new} same h =
    subst (λ (u : List ℕ). Stands (IsIndexOf xs (text_or_digits u)) old new) same h

-- a list that grew twice
pub record LongerTwice (a b c : List (List ℕ)) : Type 0 where
  pub first : IsLonger a b
  pub second : IsLonger b c

pub texts_grow_twice : {t u w : Tables} → Grows t u → Grows u w → LongerTwice t.strings u.strings w.strings
texts_grow_twice a b = record { first = a.strings; second = b.strings }

-- the pairs so far were put, and the next one
pub text_pair_stands :
    {A : Type 0} {a b c : List (List ℕ)} → LongerTwice a b c → (seen : A → List ℕ × List ℕ) (xs : List A)
    (i : ℕ) {x : A} {start old mid : List Token} (new : List Token) → ElementAt xs i x →
    StandAll json_tokens (ArePairTexts a (list_map seen (take i xs))) start old →
    Stands (IsIndexOf b (text_or_digits (seen x).0)) old mid →
    Stands (IsIndexOf c (text_or_digits (seen x).1)) mid new →
    StandAll json_tokens (ArePairTexts c (list_map seen (take (i + 1) xs))) start new
text_pair_stands {a = a} {b = b} {c = c} grow seen xs i {x} {start} {old} {mid} new at s key value =
    let before = list_map seen (take i xs) in
    let own : List Json = key.json ∷ value.json ∷ [] in
    some_more (ArePairTexts a before) (ArePairTexts c (list_map seen (take (i + 1) xs))) start old new own s
    (two_put old new key.json value.json key.tokens value.tokens)
    (λ js are. subst (λ (l : List (List ℕ × List ℕ)). ArePairTexts c l (js ++ own))
    (sym (seen_more seen xs i x at.inside at.is))
    (texts_push c before (seen x) js key.json value.json
    (pair_texts_grow a c (longer_trans a b c grow.first grow.second) before js are)
    (index_grows b c grow.second (text_or_digits (seen x).0) key.json key.is_so) value.is_so))
