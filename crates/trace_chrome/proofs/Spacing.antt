-- Tokens with line feeds before some of them.
use Rattle.std.proofs.Common.{◌≡◌, ℕ, Bool, true, false, List, [], ◌∷◌, ◌++◌, fold, map as list_map, refl, sym, ap}
use Rattle.std.proofs.Common.{◌∙◌, inr}
use Rattle.std.proofs.Common.{append_assoc}
use Rattle.std.specs.List.{flat_map}
use Rattle.std.proofs.lemmas.List.Sums.{fold-append}
use Rattle.json.specs.Json.{Json, null, boolean, number, string, array, object, Items, no_items, item}
use Rattle.json.specs.Json.{Members, no_members, member}
use Rattle.json.specs.Print.{token_text, separator, ends, print_from}
use Rattle.json.specs.Spaced.{AreGaps, print_spaced}
use Rattle.json.specs.Token.{Token}
use Rattle.json.specs.Tree.{json_tokens, items_tokens, members_tokens}
use Rattle.trace_json.specs.Lines.{json_text}

-- tokens, each with what stands before it
abbrev pub Spaced : Type 0
Spaced = List (List ℕ × Token)

-- no line feed
abbrev pub plain : List Token → Spaced
plain ts = list_map (λ t. ([], t)) ts

-- a line feed before the first
abbrev pub on_line : List Token → Spaced
on_line [] = []
on_line (t ∷ ts) = (10 ∷ [], t) ∷ plain ts

-- the tokens alone
abbrev pub tokens_in : Spaced → List Token
tokens_in ps = list_map (λ p. p.1) ps

-- ---- texts

-- with no line feed it is that which a writer prints
pub print_spaced-plain : (c : Bool) (ts : List Token) → print_spaced c (plain ts) ≡ print_from c ts
unfolding print_spaced print_from
print_spaced-plain c [] = refl
print_spaced-plain c (t ∷ ts) =
    ap (λ (l : List ℕ). separator c t ++ (token_text t ++ l)) (print_spaced-plain (ends t) ts)

-- whether a value has just ended after tokens, by whether one had before them
abbrev pub after : Bool → List Token → Bool
after c ts = fold (λ _ t. ends t) c ts

-- the text of some tokens and then others
pub print_spaced-append :
    (c : Bool) (ps qs : Spaced) →
    print_spaced c (ps ++ qs) ≡ print_spaced c ps ++ print_spaced (after c (tokens_in ps)) qs
unfolding print_spaced
print_spaced-append c [] qs = refl
print_spaced-append c (p ∷ ps) qs =
    let rest = print_spaced (after (ends p.1) (tokens_in ps)) qs in
    ap (λ (l : List ℕ). separator c p.1 ++ (p.0 ++ (token_text p.1 ++ l))) (print_spaced-append (ends p.1) ps qs)
    ∙ ap (λ (l : List ℕ). separator c p.1 ++ (p.0 ++ l)) (sym (append_assoc (token_text p.1) _ rest))
    ∙ ap (λ (l : List ℕ). separator c p.1 ++ l) (sym (append_assoc p.0 _ rest))
    ∙ sym (append_assoc (separator c p.1) _ rest)

after-items : (c : Bool) (js : Items) → after c (items_tokens js) ≡ true
after-items c no_items = refl
after-items c (item j js) =
    fold-append (λ _ t. ends t) c (json_tokens j) (items_tokens js) ∙ after-items (after c (json_tokens j)) js

after-members : (c : Bool) (ms : Members) → after c (members_tokens ms) ≡ true
after-members c no_members = refl
after-members c (member k j ms) =
    fold-append (λ _ t. ends t) false (json_tokens j) (members_tokens ms)
    ∙ after-members (after false (json_tokens j)) ms

-- a value has ended after its tokens
pub after-json : (c : Bool) (j : Json) → after c (json_tokens j) ≡ true
after-json c null = refl
after-json c (boolean b) = refl
after-json c (number s) = refl
after-json c (string s) = refl
after-json c (array js) = after-items false js
after-json c (object ms) = after-members false ms

-- ---- tokens

pub tokens_in-plain : (ts : List Token) → tokens_in (plain ts) ≡ ts
tokens_in-plain [] = refl
tokens_in-plain (t ∷ ts) = ap (λ (l : List Token). t ∷ l) (tokens_in-plain ts)

pub tokens_in-on_line : (ts : List Token) → tokens_in (on_line ts) ≡ ts
tokens_in-on_line [] = refl
tokens_in-on_line (t ∷ ts) = ap (λ (l : List Token). t ∷ l) (tokens_in-plain ts)

pub tokens_in-append : (ps qs : Spaced) → tokens_in (ps ++ qs) ≡ tokens_in ps ++ tokens_in qs
tokens_in-append [] qs = refl
tokens_in-append (p ∷ ps) qs = ap (λ (l : List Token). p.1 ∷ l) (tokens_in-append ps qs)

-- ---- gaps

pub AreGaps-plain : (ts : List Token) → AreGaps (plain ts)
AreGaps-plain [] = tt
AreGaps-plain (t ∷ ts) = (tt, AreGaps-plain ts)

pub AreGaps-on_line : (ts : List Token) → AreGaps (on_line ts)
AreGaps-on_line [] = tt
AreGaps-on_line (t ∷ ts) = ((inr refl, tt), AreGaps-plain ts)

pub AreGaps-append : (ps qs : Spaced) → AreGaps ps → AreGaps qs → AreGaps (ps ++ qs)
AreGaps-append [] qs h k = k
AreGaps-append (p ∷ ps) qs h k = (h.0, AreGaps-append ps qs h.1 k)

-- ---- objects on lines

-- one after a value
pub object_on_line :
    (ms : Members) → print_spaced true (on_line (json_tokens (object ms))) ≡ 44 ∷ 10 ∷ json_text (object ms)
unfolding print_spaced print_from
object_on_line ms = ap (λ (l : List ℕ). 44 ∷ 10 ∷ 123 ∷ l) (print_spaced-plain false (members_tokens ms))

-- the first of a list
pub first_on_line :
    (ms : Members) → print_spaced false (on_line (json_tokens (object ms))) ≡ 10 ∷ json_text (object ms)
unfolding print_spaced print_from
first_on_line ms = ap (λ (l : List ℕ). 10 ∷ 123 ∷ l) (print_spaced-plain false (members_tokens ms))

module _ {A : Type 0} (f : A → Members) where
  -- objects, each on a line of its own
  abbrev pub lines : List A → Spaced
  lines xs = flat_map (λ x. on_line (json_tokens (object (f x)))) xs

  -- several after a value, and what stands after them
  pub objects_on_lines :
      (xs : List A) (rest : Spaced) →
      print_spaced true (lines xs ++ rest)
      ≡ flat_map (λ x. 44 ∷ 10 ∷ json_text (object (f x))) xs ++ print_spaced true rest
  objects_on_lines [] rest = refl
  objects_on_lines (x ∷ xs) rest =
      let ts = json_tokens (object (f x)) in
      let one = 44 ∷ 10 ∷ json_text (object (f x)) in
      ap (print_spaced true) (append_assoc (on_line ts) (lines xs) rest)
      ∙ print_spaced-append true (on_line ts) (lines xs ++ rest)
      ∙ ap (λ (l : List ℕ). l ++ print_spaced (after true (tokens_in (on_line ts))) (lines xs ++ rest))
      (object_on_line (f x))
      ∙ ap (λ (b : Bool). one ++ print_spaced b (lines xs ++ rest))
      (ap (after true) (tokens_in-on_line ts) ∙ after-json true (object (f x)))
      ∙ ap (λ (l : List ℕ). one ++ l) (objects_on_lines xs rest)
      ∙ sym (append_assoc one _ _)

  -- line feeds alone stand between their tokens
  pub gaps_of_lines : (xs : List A) → AreGaps (lines xs)
  gaps_of_lines [] = tt
  gaps_of_lines (x ∷ xs) =
      let ts = json_tokens (object (f x)) in
      AreGaps-append (on_line ts) (lines xs) (AreGaps-on_line ts) (gaps_of_lines xs)

  -- their tokens
  pub tokens_of_lines : (xs : List A) → tokens_in (lines xs) ≡ flat_map (λ x. json_tokens (object (f x))) xs
  tokens_of_lines [] = refl
  tokens_of_lines (x ∷ xs) =
      tokens_in-append (on_line (json_tokens (object (f x)))) (lines xs)
      ∙ ap (λ (l : List Token). l ++ tokens_in (lines xs)) (tokens_in-on_line (json_tokens (object (f x))))
      ∙ ap (λ (l : List Token). json_tokens (object (f x)) ++ l) (tokens_of_lines xs)
