-- Tokens that are written one after another.
use Rattle.std.proofs.Common.{◌≡◌, ℕ, ◌+◌, ◌<◌, ◌≤◌, length, take, get_or, List, [], ◌∷◌, ◌++◌, map as list_map}
use Rattle.std.proofs.Common.{Result, Ok, Err, OnOk, refl, sym, ap, ◌∙◌, append_assoc, append-nil}
use Rattle.std.specs.List.{flat_map}
use Rattle.std.proofs.lemmas.List.{flat_map_more, take_more, take_all}
use Rattle.std.proofs.lemmas.List.Folds.{flat_map-map}
use Rattle.json.specs.Json.{Json}
use Rattle.json.specs.Token.{Token, begin_object, end_object, begin_array, end_array}
use Rattle.json.specs.Tree.{json_tokens, items_tokens, members_tokens}
use Rattle.trace_json.specs.EventJson.{items_of, members_of, list_json, object_json, pair_json, IsPairOf}
use Rattle.trace_json.specs.Put.{Stands}
use Rattle.trace_json.specs.parts.Put.{StandAll, member_tokens}

-- ---- lists and objects, by their parts

pub items_tokens_of : (js : List Json) → items_tokens (items_of js) ≡ flat_map json_tokens js ++ end_array ∷ []
items_tokens_of [] = refl
items_tokens_of (j ∷ js) =
    ap (λ (t : List Token). json_tokens j ++ t) (items_tokens_of js)
    ∙ sym (append_assoc (json_tokens j) (flat_map json_tokens js) (end_array ∷ []))

-- the tokens of members that are pairs of a name and a JSON
pub members_tokens_of :
    (ms : List (List ℕ × Json)) → members_tokens (members_of ms) ≡ flat_map member_tokens ms ++ end_object ∷ []
members_tokens_of [] = refl
members_tokens_of (m ∷ ms) =
    ap (λ (t : List Token). member_tokens m ++ t) (members_tokens_of ms)
    ∙ sym (append_assoc (member_tokens m) (flat_map member_tokens ms) (end_object ∷ []))

-- ---- an opening token, what is inside, and a closing one

in_three : (a b c d : List Token) → ((a ++ b) ++ c) ++ d ≡ a ++ (b ++ (c ++ d))
in_three a b c d = simp append_assoc

-- what was put from an opening to a closing
pub enclosed :
    {E : Type 0} (r : Result (Unit {0}) E) (old : List Token) {one two : List Token}
    (new opening inside closing : List Token) →
    one ≡ old ++ opening → two ≡ one ++ inside → OnOk r (new ≡ two ++ closing) →
    OnOk r (new ≡ old ++ (opening ++ (inside ++ closing)))
enclosed (Ok u) old new opening inside closing a b e =
    e ∙ ap (λ (t : List Token). t ++ closing) (b ∙ ap (λ (t : List Token). t ++ inside) a)
    ∙ in_three old opening inside closing
enclosed (Err x) old new opening inside closing a b e = tt

along : {E : Type 0} (r : Result (Unit {0}) E) (new old a b : List Token) → a ≡ b → OnOk r (new ≡ old ++ a) →
    OnOk r (new ≡ old ++ b)
along (Ok u) new old a b same e = e ∙ ap (λ (t : List Token). old ++ t) same
along (Err x) new old a b same e = tt

list_put :
    {E : Type 0} (r : Result (Unit {0}) E) (js : List Json) (old one two new : List Token) →
    one ≡ old ++ begin_array ∷ [] → two ≡ one ++ flat_map json_tokens js → OnOk r (new ≡ two ++ end_array ∷ []) →
    OnOk r (new ≡ old ++ json_tokens (list_json js))
list_put r js old one two new a b e =
    along r new old _ _ (ap (λ (t : List Token). begin_array ∷ t) (sym (items_tokens_of js)))
    (enclosed r old new (begin_array ∷ []) (flat_map json_tokens js) (end_array ∷ []) a b e)

-- the same of a list of what things are
pub mapped_put :
    {E A : Type 0} (r : Result (Unit {0}) E) (f : A → Json) (xs : List A) (old one two new : List Token) →
    one ≡ old ++ begin_array ∷ [] → two ≡ one ++ flat_map (λ x. json_tokens (f x)) xs →
    OnOk r (new ≡ two ++ end_array ∷ []) →
    OnOk r (new ≡ old ++ json_tokens (list_json (list_map f xs)))
mapped_put r f xs old one two new a b e =
    list_put r (list_map f xs) old one two new a
    (b ∙ ap (λ (t : List Token). one ++ t) (sym (flat_map-map json_tokens f xs))) e

-- a key and a value were put as a list of two
pub pair_put :
    {E : Type 0} (r : Result (Unit {0}) E) (key value : Json) (old : List Token) {one two three : List Token}
    (new : List Token) →
    one ≡ old ++ begin_array ∷ [] → two ≡ one ++ json_tokens key → three ≡ two ++ json_tokens value →
    OnOk r (new ≡ three ++ end_array ∷ []) → OnOk r (new ≡ old ++ json_tokens (pair_json key value))
pair_put r key value old {one} {three} new a b c e =
    along r new old _ _
    (ap (λ (t : List Token). begin_array ∷ t) (append_assoc (json_tokens key) (json_tokens value) (end_array ∷ [])))
    (enclosed r old new (begin_array ∷ []) (json_tokens key ++ json_tokens value) (end_array ∷ []) a
    (c ∙ ap (λ (t : List Token). t ++ json_tokens value) b
    ∙ append_assoc one (json_tokens key) (json_tokens value)) e)

-- ---- the same of JSON of which something is so

-- while pairs are left, or a thing is put, one stands there
pub one_stands :
    {E : Type 0} (r : Result (Unit {0}) E) (is : Json → Type 0) (j : Json) (old new : List Token) → is j →
    OnOk r (new ≡ old ++ json_tokens j) → OnOk r (Stands is old new)
one_stands (Ok u) is j old new so e = record { json = j; is_so = so; tokens = e }
one_stands (Err x) is j old new so e = tt

-- a list was put from its first bracket to its last
pub list_stands :
    {E : Type 0} (r : Result (Unit {0}) E) (are : List Json → Type 0) (old one two new : List Token) →
    one ≡ old ++ begin_array ∷ [] → StandAll json_tokens are one two → OnOk r (new ≡ two ++ end_array ∷ []) →
    OnOk r (Stands (λ j. (js : List Json) × are js × (j ≡ list_json js)) old new)
list_stands r are old one two new a s e =
    one_stands r (λ j. (js : List Json) × are js × (j ≡ list_json js)) (list_json s.all) old new
    (s.all, s.are_so, refl) (list_put r s.all old one two new a s.tokens e)

-- an object was put from its first brace to its last
pub object_stands :
    {E : Type 0} (r : Result (Unit {0}) E) (are : List (List ℕ × Json) → Type 0) (old one two new : List Token) →
    one ≡ old ++ begin_object ∷ [] → StandAll member_tokens are one two → OnOk r (new ≡ two ++ end_object ∷ []) →
    OnOk r (Stands (λ j. (ms : List (List ℕ × Json)) × are ms × (j ≡ object_json ms)) old new)
object_stands r are old one two new a s e =
    one_stands r (λ j. (ms : List (List ℕ × Json)) × are ms × (j ≡ object_json ms)) (object_json s.all) old new
    (s.all, s.are_so, refl)
    (along r new old _ _ (ap (λ (t : List Token). begin_object ∷ t) (sym (members_tokens_of s.all)))
    (enclosed r old new (begin_object ∷ []) (flat_map member_tokens s.all) (end_object ∷ []) a s.tokens e))

pub pair_stands :
    {E : Type 0} (r : Result (Unit {0}) E) (is_key is_value : Json → Type 0) (old : List Token)
    {one two three : List Token} (new : List Token) →
    one ≡ old ++ begin_array ∷ [] → Stands is_key one two → Stands is_value two three →
    OnOk r (new ≡ three ++ end_array ∷ []) → OnOk r (Stands (IsPairOf is_key is_value) old new)
pair_stands r is_key is_value old {one} new a key value e =
    one_stands r (IsPairOf is_key is_value) (pair_json key.json value.json) old new
    (key.json, value.json, key.is_so, value.is_so, refl)
    (pair_put r key.json value.json old new a key.tokens value.tokens e)

-- the same inside a loop
pub pair_closed :
    (is_key is_value : Json → Type 0) (old : List Token) {one two three new : List Token} →
    one ≡ old ++ begin_array ∷ [] → Stands is_key one two → Stands is_value two three →
    new ≡ three ++ end_array ∷ [] → Stands (IsPairOf is_key is_value) old new
pair_closed is_key is_value old {one} {new} a key value e =
    pair_stands {E = ℕ} (Ok tt) is_key is_value old new a key value e

-- ---- tokens put one by one

-- three tokens, put one after another
pub record ThreePut (a b c : Token) (old three : List Token) : Type 0 where
  pub one : List Token
  pub two : List Token
  pub first : one ≡ old ++ a ∷ []
  pub second : two ≡ one ++ b ∷ []
  pub third : three ≡ two ++ c ∷ []

-- four tokens were put, the third of them told otherwise
pub put_four :
    {E : Type 0} (r : Result (Unit {0}) E) {a b c : Token} (d : Token) {told : Token} {old three : List Token}
    (new : List Token) → c ≡ told → ThreePut a b c old three → OnOk r (new ≡ three ++ d ∷ []) →
    OnOk r (new ≡ old ++ a ∷ b ∷ told ∷ d ∷ [])
put_four (Ok u) {a} {b} d {old = old} new same p e =
    rw (e, p.third, p.second, p.first, same) (simp append_assoc)
put_four (Err x) d new same p e = tt

-- five tokens were put
pub put_five :
    {E : Type 0} (r : Result (Unit {0}) E) {a b c : Token} (d x : Token) {old three four : List Token}
    (new : List Token) → ThreePut a b c old three → four ≡ three ++ d ∷ [] → OnOk r (new ≡ four ++ x ∷ []) →
    OnOk r (new ≡ old ++ a ∷ b ∷ c ∷ d ∷ x ∷ [])
put_five (Ok u) d x new p q e = rw (e, q, p.third, p.second, p.first) (simp append_assoc)
put_five (Err z) d x new p q e = tt

-- tokens after one, and others after these
pub put_after_one :
    {E : Type 0} (r : Result (Unit {0}) E) (a : Token) (b c old : List Token) {one two : List Token}
    (new : List Token) → one ≡ old ++ a ∷ [] → two ≡ one ++ b → OnOk r (new ≡ two ++ c) →
    OnOk r (new ≡ old ++ a ∷ (b ++ c))
put_after_one r a b c old new first second last = enclosed r old new (a ∷ []) b c first second last

-- ---- things written in a loop

-- where nothing was put all is as before
pub nothing_put : (start : List Token) → start ≡ start ++ []
nothing_put start = sym (append-nil start)

-- one thing more
pub one_more :
    {A : Type 0} (each : A → List Token) (are next : List A → Type 0) (start old new : List Token) (x : A) →
    StandAll each are start old → new ≡ old ++ each x → ((xs : List A) → are xs → next (xs ++ x ∷ [])) →
    StandAll each next start new
one_more each are next start old new x s e more = record {
  all = s.all ++ x ∷ [];
  are_so = more s.all s.are_so;
  tokens = e ∙ ap (λ (t : List Token). t ++ each x) s.tokens ∙ flat_map_more each start s.all x;
}

-- one thing more, whose tokens are known
pub shown_more :
    {A : Type 0} (each : A → List Token) (start old new : List Token) (xs : List A) (i : ℕ) (x : A) →
    i < length xs → x ≡ get_or xs i x → old ≡ start ++ flat_map each (take i xs) → new ≡ old ++ each x →
    new ≡ start ++ flat_map each (take (i + 1) xs)
shown_more each start old new xs i x lt is before after =
    rw (after, before, take_more xs i x lt, ← is) (flat_map_more each start (take i xs) x)

pub shown_all :
    {A : Type 0} (each : A → List Token) (start new : List Token) (xs : List A) (i : ℕ) → length xs ≤ i →
    new ≡ start ++ flat_map each (take i xs) → new ≡ start ++ flat_map each xs
shown_all {A} each start new xs i le e = e ∙ ap (λ (l : List A). start ++ flat_map each l) (take_all i xs le)
