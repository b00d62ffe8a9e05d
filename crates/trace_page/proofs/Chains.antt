-- Pieces of tokens that are written one after another.
use Rattle.std.proofs.Common.{◌≡◌, ℕ, List, [], ◌∷◌, ◌++◌, Result, Ok, Err, OnOk, refl, sym, ap, ◌∙◌}
use Rattle.std.proofs.Common.{append_assoc}
use Rattle.std.proofs.lemmas.Result.{on_ok_weaker}
use Rattle.std.specs.List.{flat_map}
use Rattle.json.specs.Json.{Json}
use Rattle.json.specs.Token.{Token, key, begin_array, end_array}
use Rattle.json.specs.Tree.{json_tokens, items_tokens}
use Rattle.trace_json.specs.EventJson.{items_of, list_json}
use Rattle.trace_json.specs.parts.Put.{member_tokens}

-- pieces, and then a last one
abbrev pub onto : List (List Token) → List Token → List Token
onto [] last = last
onto (x ∷ xs) last = x ++ onto xs last

-- pieces were written, one after another
abbrev pub Along : List Token → List (List Token) → List Token → Type 0
Along old [] new = new ≡ old
Along old (x ∷ xs) new = (next : List Token) × (next ≡ old ++ x) × Along next xs new

-- with the last one they stand after what stood there
pub all_along : (old : List Token) (xs : List (List Token)) (last mid : List Token) → Along old xs mid →
    mid ++ last ≡ old ++ onto xs last
all_along old [] last mid e = ap (λ (t : List Token). t ++ last) e
all_along old (x ∷ xs) last mid h =
    all_along h.0 xs last mid h.2 ∙ ap (λ (t : List Token). t ++ onto xs last) h.1 ∙ append_assoc old x (onto xs last)

-- pieces were written, and then the last one, or a growth was refused
pub chained :
    {E : Type 0} (r : Result (Unit {0}) E) (old : List Token) (xs : List (List Token)) (last mid new : List Token) →
    Along old xs mid → OnOk r (new ≡ mid ++ last) →
    OnOk r (new ≡ old ++ onto xs last)
chained r old xs last mid new h e =
    on_ok_weaker r (λ (p : new ≡ mid ++ last). p ∙ all_along old xs last mid h) e

-- a member whose value is told otherwise
pub member_is : (old : List Token) {new : List Token} (name : List ℕ) (i j : Json) → i ≡ j →
    new ≡ old ++ member_tokens (name, i) → new ≡ old ++ member_tokens (name, j)
member_is old name i j same e = e ∙ ap (λ (x : Json). old ++ member_tokens (name, x)) same

-- a member was written by its name and its value, which may be told otherwise
pub member_put :
    {E : Type 0} (r : Result (Unit {0}) E) (old : List Token) (name : List ℕ) (i j : Json) {one : List Token}
    (new : List Token) → i ≡ j → one ≡ old ++ key name ∷ [] → OnOk r (new ≡ one ++ json_tokens i) →
    OnOk r (new ≡ old ++ member_tokens (name, j))
member_put r old name i j {one} new same put e =
    on_ok_weaker r (λ (p : new ≡ one ++ json_tokens i).
    p ∙ ap (λ (t : List Token). t ++ json_tokens i) put ∙ append_assoc old (key name ∷ []) (json_tokens i)
    ∙ ap (λ (x : Json). old ++ member_tokens (name, x)) same) e

-- the tokens of a list's items, and its last bracket
pub list_tokens : (js : List Json) → items_tokens (items_of js) ≡ flat_map json_tokens js ++ end_array ∷ []
list_tokens [] = refl
list_tokens (j ∷ js) =
    ap (λ (t : List Token). json_tokens j ++ t) (list_tokens js)
    ∙ sym (append_assoc (json_tokens j) (flat_map json_tokens js) (end_array ∷ []))

-- a member that is a list was written from its name to its last bracket
pub list_member :
    {E : Type 0} (r : Result (Unit {0}) E) (old : List Token) (name : List ℕ) (js : List Json)
    {one two three : List Token} (new : List Token) → one ≡ old ++ key name ∷ [] → two ≡ one ++ begin_array ∷ [] →
    three ≡ two ++ flat_map json_tokens js → OnOk r (new ≡ three ++ end_array ∷ []) →
    OnOk r (new ≡ old ++ member_tokens (name, list_json js))
list_member r old name js {one} {two} {three} new a b c e =
    on_ok_weaker r
    (λ (p : new ≡ old ++ (key name ∷ begin_array ∷ (flat_map json_tokens js ++ end_array ∷ []))).
    p ∙ ap (λ (t : List Token). old ++ key name ∷ begin_array ∷ t) (sym (list_tokens js)))
    (chained r old ((key name ∷ []) ∷ (begin_array ∷ []) ∷ flat_map json_tokens js ∷ []) (end_array ∷ []) three new
    (one, a, (two, b, (three, c, refl))) e)

-- what is so anyway is so where no growth was refused
pub so_on_ok : {T E P : Type 0} (r : Result T E) → P → OnOk r P
so_on_ok (Ok x) p = p
so_on_ok (Err x) p = tt
