-- JSON that is put to what grows, part by part.
use Rattle.std.proofs.Common.{◌≡◌, ℕ, ◌+◌, ◌<◌, ◌≤◌, length, take, drop, get_or, List, [], ◌∷◌, ◌++◌, map as list_map}
use Rattle.std.proofs.Common.{Result, Ok, Err, OnOk, Option, None, Some, Bor}
use Rattle.std.proofs.Common.{refl, sym, ap, subst, ◌∙◌, arith}
use Rattle.std.specs.List.{flat_map}
use Rattle.std.specs.declared.alloc.AllocError.{AllocError}
use Rattle.std.proofs.lemmas.List.{flat_map_more, take_all, length-map, length-take-le}
use Rattle.json.specs.Json.{Json}
use Rattle.json.specs.Print.{print}
use Rattle.json.specs.Token.{Token, begin_object, end_object, begin_array, end_array, key}
use Rattle.json.specs.Tree.{json_tokens}
use Rattle.json.specs.Written.{Written}
use Rattle.trace_values.specs.Values.{Value}
use Rattle.trace_values.specs.Reading.{values_to_items, values_to_pairs}
use Rattle.trace_values.proofs.CompareLoops.{ElementAt}
use Rattle.trace_wire.specs.Runs.{Pools}
use Rattle.trace_json.specs.EventJson.{IsValueJson, AreItemsJson, ArePairsJson, IsPairOf, AreFieldsJson, list_json}
use Rattle.trace_json.specs.EventJson.{object_json, pair_json, file_members, event_members}
use Rattle.trace_json.specs.Lines.{IsTextOf}
use Rattle.trace_json.specs.Put.{Stands}
use Rattle.trace_json.specs.parts.Growing.{GrowsAll, GrowsOne, PutsBy, PutsOneBy, WriterRefuses, WriterGrows}
use Rattle.trace_json.specs.parts.Put.{member_tokens, head_tokens}
use Rattle.trace_json.proofs.Tokens.{items_tokens_of, members_tokens_of}
use Rattle.trace_json.proofs.OneMore.{IsPairJson, NameAt, fields_more, items_more, pairs_more, seen_more}

-- what grows: tokens come after others, and it takes no more after tokens were put
abbrev pub Joins : {S : Type 0} → (S → List Token → S → Type 0) → Type 0
Joins {S} grows = (s m t : S) (a b : List Token) → grows s a m → grows m b t → grows s (a ++ b) t

abbrev pub Carries : {S F : Type 0} → (S → List Token → S → Type 0) → (S → F → S → Type 0) → Type 0
Carries {S} {F} grows fails = (s m t : S) (a : List Token) (e : F) → grows s a m → fails m e t → fails s e t

as_tokens :
    {S : Type 0} (grows : S → List Token → S → Type 0) (s t : S) (a b : List Token) → a ≡ b → grows s a t →
    grows s b t
as_tokens grows s t a b same g = subst (λ (x : List Token). grows s x t) same g

-- an opening token, what is inside, and a closing one
pub closed :
    {S F : Type 0} {grows : S → List Token → S → Type 0} {fails : S → F → S → Type 0} (joins : Joins grows)
    (carries : Carries grows fails) {s a b : S} (t : S) (opening inside closing : List Token)
    (r : Result (Unit {0}) F) →
    grows s opening a → grows a inside b → PutsBy grows fails closing b t r →
    PutsBy grows fails (opening ++ (inside ++ closing)) s t r
closed joins carries {s} {a} {b} t opening inside closing (Ok u) one two three =
    joins s a t opening (inside ++ closing) one (joins a b t inside closing two three)
closed joins carries {s} {a} {b} t opening inside closing (Err e) one two three =
    carries s a t opening e one (carries a b t inside e two three)

-- JSON with these tokens was put, of which something is so
pub puts_one :
    {S F : Type 0} (grows : S → List Token → S → Type 0) (fails : S → F → S → Type 0) (is : Json → Type 0) (j : Json)
    (s t : S) (tokens : List Token) (r : Result (Unit {0}) F) → is j × (tokens ≡ json_tokens j) →
    PutsBy grows fails tokens s t r → PutsOneBy grows fails is s t r
puts_one grows fails is j s t tokens (Ok u) (so, same) put =
    record { json = j; is_so = so; grown = as_tokens grows s t tokens (json_tokens j) same put }
puts_one grows fails is j s t tokens (Err e) (so, same) put = put

-- a list was put from its first bracket to its last
pub list_closed :
    {S F : Type 0} {grows : S → List Token → S → Type 0} {fails : S → F → S → Type 0} (joins : Joins grows)
    (carries : Carries grows fails) (are : List Json → Type 0) {s a b : S} (t : S) (r : Result (Unit {0}) F) →
    grows s (begin_array ∷ []) a → GrowsAll grows json_tokens are a b → PutsBy grows fails (end_array ∷ []) b t r →
    PutsOneBy grows fails (λ j. (js : List Json) × are js × (j ≡ list_json js)) s t r
list_closed {grows = grows} {fails = fails} joins carries are {s} t r one all put =
    puts_one grows fails (λ j. (js : List Json) × are js × (j ≡ list_json js)) (list_json all.all) s t _ r
    ((all.all, all.are_so, refl), ap (λ (x : List Token). begin_array ∷ x) (sym (items_tokens_of all.all)))
    (closed joins carries t (begin_array ∷ []) (flat_map json_tokens all.all) (end_array ∷ []) r one all.grown put)

-- an object was put from its first brace to its last
pub object_closed :
    {S F : Type 0} {grows : S → List Token → S → Type 0} {fails : S → F → S → Type 0} (joins : Joins grows)
    (carries : Carries grows fails) (are : List (List ℕ × Json) → Type 0) {s a b : S} (t : S)
    (r : Result (Unit {0}) F) →
    grows s (begin_object ∷ []) a → GrowsAll grows member_tokens are a b → PutsBy grows fails (end_object ∷ []) b t r →
    PutsOneBy grows fails (λ j. (ms : List (List ℕ × Json)) × are ms × (j ≡ object_json ms)) s t r
object_closed {grows = grows} {fails = fails} joins carries are {s} t r one all put =
    puts_one grows fails (λ j. (ms : List (List ℕ × Json)) × are ms × (j ≡ object_json ms)) (object_json all.all)
    s t _ r
    ((all.all, all.are_so, refl), ap (λ (x : List Token). begin_object ∷ x) (sym (members_tokens_of all.all)))
    (closed joins carries t (begin_object ∷ []) (flat_map member_tokens all.all) (end_object ∷ []) r one all.grown put)

-- an event was put from its brace to its last
pub event_closed :
    {S F : Type 0} {grows : S → List Token → S → Type 0} {fails : S → F → S → Type 0} (joins : Joins grows)
    (carries : Carries grows fails) (is : Json → Type 0) (file : Option (Bor (List ℕ))) (name : List ℕ) (time : ℕ)
    {s a b : S} (t : S) (r : Result (Unit {0}) F) →
    grows s (head_tokens file name time) a × GrowsOne grows is a b → PutsBy grows fails (end_object ∷ []) b t r →
    PutsOneBy grows fails
    (λ j. (fields : Json) × is fields × (j ≡ object_json (file_members file ++ event_members name time fields))) s t r
event_closed {grows = grows} {fails = fails} joins carries is None name time {s} t r (one, inside) put =
    puts_one grows fails (λ j. (fields : Json) × is fields × (j ≡ object_json (event_members name time fields)))
    (object_json (event_members name time inside.json)) s t _ r ((inside.json, inside.is_so, refl), refl)
    (closed joins carries t (head_tokens None name time) (json_tokens inside.json) (end_object ∷ []) r one
    inside.grown put)
event_closed {grows = grows} {fails = fails} joins carries is (Some file) name time {s} t r (one, inside) put =
    puts_one grows fails
    (λ j. (fields : Json) × is fields × (j ≡ object_json (file_members (Some file) ++ event_members name time fields)))
    (object_json (file_members (Some file) ++ event_members name time inside.json)) s t _ r
    ((inside.json, inside.is_so, refl), refl)
    (closed joins carries t (head_tokens (Some file) name time) (json_tokens inside.json) (end_object ∷ []) r one
    inside.grown put)

-- ---- in loops

-- nothing was put
pub none_grown :
    {S A : Type 0} {grows : S → List Token → S → Type 0} (each : A → List Token) (are : List A → Type 0) (s : S) →
    are [] → grows s [] s → GrowsAll grows each are s s
none_grown each are s so g = record { all = []; are_so = so; grown = g }

-- one thing more
pub one_grown :
    {S A : Type 0} {grows : S → List Token → S → Type 0} (joins : Joins grows) (each : A → List Token)
    (are next : List A → Type 0) {s a t : S} (x : A) → GrowsAll grows each are s a → grows a (each x) t →
    ((xs : List A) → are xs → next (xs ++ x ∷ [])) → GrowsAll grows each next s t
one_grown {grows = grows} joins each are next {s} {a} {t} x all g more = record {
  all = all.all ++ x ∷ [];
  are_so = more all.all all.are_so;
  grown = as_tokens grows s t (flat_map each all.all ++ each x) (flat_map each (all.all ++ x ∷ []))
      (flat_map_more each [] all.all x) (joins s a t (flat_map each all.all) (each x) all.grown g);
}

-- all were put
pub all_grown :
    {S A B X : Type 0} {grows : S → List Token → S → Type 0} (each : A → List Token) (are : List X → List A → Type 0)
    (seen : B → X) (xs : List B) (i : ℕ) {s t : S} → length xs ≤ i →
    GrowsAll grows each (are (list_map seen (take i xs))) s t → GrowsAll grows each (are (list_map seen xs)) s t
all_grown {B = B} {grows = grows} each are seen xs i {s} {t} le all =
    subst (λ (l : List B). GrowsAll grows each (are (list_map seen l)) s t) (take_all i xs le) all

-- the items so far were put, and the next one
pub item_grown :
    {S A : Type 0} {grows : S → List Token → S → Type 0} (joins : Joins grows) (p : Pools) (seen : A → Value)
    (xs : List A) (i : ℕ) {x : A} {s a t : S} →
    i < length xs → x ≡ get_or xs i x →
    GrowsAll grows json_tokens (AreItemsJson p (values_to_items (list_map seen (take i xs)))) s a →
    GrowsOne grows (IsValueJson p (seen x)) a t →
    GrowsAll grows json_tokens (AreItemsJson p (values_to_items (list_map seen (take (i + 1) xs)))) s t
item_grown joins p seen xs i {x} lt is all one =
    one_grown joins json_tokens (AreItemsJson p (values_to_items (list_map seen (take i xs))))
    (AreItemsJson p (values_to_items (list_map seen (take (i + 1) xs)))) one.json all one.grown
    (λ js are. subst (λ (vs : List Value). AreItemsJson p (values_to_items vs) (js ++ one.json ∷ []))
    (sym (seen_more seen xs i x lt is)) (items_more p (list_map seen (take i xs)) (seen x) js one.json are one.is_so))

-- a key and a value were put as a list of two
pub pair_grown :
    {S : Type 0} {grows : S → List Token → S → Type 0} (joins : Joins grows) (is_key is_value : Json → Type 0)
    {s a b c t : S} → grows s (begin_array ∷ []) a → GrowsOne grows is_key a b → GrowsOne grows is_value b c →
    grows c (end_array ∷ []) t → GrowsOne grows (IsPairOf is_key is_value) s t
pair_grown {grows = grows} joins is_key is_value {s} {a} {b} {c} {t} opening first second closing =
    let k = json_tokens first.json in
    let v = json_tokens second.json in
    let rest = joins b c t v (end_array ∷ []) second.grown closing in
    let inside = joins a b t k (v ++ end_array ∷ []) first.grown rest in
    record {
      json = pair_json first.json second.json;
      is_so = (first.json, second.json, first.is_so, second.is_so, refl);
      grown = joins s a t (begin_array ∷ []) (k ++ (v ++ end_array ∷ [])) opening inside;
    }

-- the pairs so far were put, and the next one
pub pairs_grown :
    {S A : Type 0} {grows : S → List Token → S → Type 0} (joins : Joins grows) (p : Pools) (seen : A → Value × Value)
    (xs : List A) (i : ℕ) {x : A} {s a t : S} →
    i < length xs → x ≡ get_or xs i x →
    GrowsAll grows json_tokens (ArePairsJson p (values_to_pairs (list_map seen (take i xs)))) s a →
    GrowsOne grows (IsPairJson p (seen x)) a t →
    GrowsAll grows json_tokens (ArePairsJson p (values_to_pairs (list_map seen (take (i + 1) xs)))) s t
pairs_grown joins p seen xs i {x} lt is all one =
    one_grown joins json_tokens (ArePairsJson p (values_to_pairs (list_map seen (take i xs))))
    (ArePairsJson p (values_to_pairs (list_map seen (take (i + 1) xs)))) one.json all one.grown
    (λ js are. subst (λ (ps : List (Value × Value)). ArePairsJson p (values_to_pairs ps) (js ++ one.json ∷ []))
    (sym (seen_more seen xs i x lt is)) (pairs_more p (list_map seen (take i xs)) (seen x) js one.json are one.is_so))

-- a field after its name
pub field_grown :
    {S A : Type 0} {grows : S → List Token → S → Type 0} (joins : Joins grows) (p : Pools) (names : List (List ℕ))
    {left : List (List ℕ)} (seen : A → Value) {xs : List A} {i : ℕ} {x : A} {name : List ℕ} {s a b t : S} →
    ElementAt xs i x → NameAt names left i name →
    GrowsAll grows member_tokens (AreFieldsJson p names (list_map seen (take i xs))) s a →
    grows a (key name ∷ []) b → GrowsOne grows (IsValueJson p (seen x)) b t →
    GrowsAll grows member_tokens (AreFieldsJson p names (list_map seen (take (i + 1) xs))) s t
field_grown joins p names seen {xs} {i} {x} {name} {s} {a} {b} {t} at called all keyed v =
    let vs = list_map seen (take i xs) in
    let j = v.json in
    let count : length vs ≡ i = length-map (take i xs) seen ∙ length-take-le i xs (omega (arith, at.inside)) in
    let here : name ≡ get_or (drop (length vs) names) 0 [] =
    called.named ∙ ap (λ (l : List (List ℕ)). get_or l 0 []) (called.rest ∙ ap (λ (k : ℕ). drop k names) (sym count)) in
    one_grown joins member_tokens (AreFieldsJson p names vs) (AreFieldsJson p names (list_map seen (take (i + 1) xs)))
    (name, j) all (joins a b t (key name ∷ []) (json_tokens j) keyed v.grown)
    (λ ms are. subst (λ (us : List Value). AreFieldsJson p names us (ms ++ (name, j) ∷ []))
    (sym (seen_more seen xs i x at.inside at.is)) (fields_more p names vs (seen x) ms name j here are v.is_so))

-- ---- a writer that keeps all

-- JSON was written to it
pub stands_written :
    (is : Json → Type 0) (s t : Written) (r : Result (Unit {0}) AllocError) →
    PutsOneBy WriterGrows WriterRefuses is s t r → OnOk r (Stands is s.tokens t.tokens)
stands_written is s t (Ok u) put = record { json = put.json; is_so = put.is_so; tokens = put.grown.0 }
stands_written is s t (Err e) put = tt

-- and what stood before it stays
pub stays_written :
    (is : Json → Type 0) (s t : Written) (r : Result (Unit {0}) AllocError) →
    PutsOneBy WriterGrows WriterRefuses is s t r → t.before ≡ s.before
stays_written is s t (Ok u) put = put.grown.1
stays_written is s t (Err e) put = put

-- what was written to it
pub written_one :
    (is : Json → Type 0) (s t : Written) (r : Result (Unit {0}) AllocError) → OnOk r (Stands is s.tokens t.tokens) →
    t.before ≡ s.before → PutsOneBy WriterGrows WriterRefuses is s t r
written_one is s t (Ok u) put stays = record { json = put.json; is_so = put.is_so; grown = (put.tokens, stays) }
written_one is s t (Err e) put stays = stays

-- tokens were put to a writer of JSON, and what stands before them stayed
pub written_tokens :
    (s t : Written) (tokens : List Token) (r : Result (Unit {0}) AllocError) → OnOk r (t.tokens ≡ s.tokens ++ tokens) →
    t.before ≡ s.before → PutsBy WriterGrows WriterRefuses tokens s t r
written_tokens s t tokens (Ok u) put stays = (put, stays)
written_tokens s t tokens (Err e) put stays = stays

-- the text of what was written to it from its beginning
pub text_written :
    {is : Json → Type 0} {s t : Written} {text : List ℕ} → s.tokens ≡ [] → s.before ≡ [] →
    GrowsOne WriterGrows is s t → text ≡ t.before ++ print t.tokens → IsTextOf is text
text_written {t = t} none empty put is = (
  put.json,
  put.is_so,
  is ∙ ap (λ (b : List ℕ). b ++ print t.tokens) (put.grown.1 ∙ empty)
      ∙ ap print (put.grown.0 ∙ ap (λ (ts : List Token). ts ++ json_tokens put.json) none),
)
