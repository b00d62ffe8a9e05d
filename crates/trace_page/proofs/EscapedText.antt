-- What was printed is read back once it is escaped.
use Rattle.std.proofs.Common.{◌≡◌, ◌≢◌, ◌≤◌, ℕ, Bool, true, false, cond, ◌&&◌, List, [], ◌∷◌, ◌++◌, Some}
use Rattle.std.proofs.Common.{option_and_then, refl, sym, ap, ap₂, ◌∙◌, subst, append_assoc, append-nil, inl, inr, ◌⊎◌}
use Rattle.std.proofs.Common.{arith}
use Rattle.std.proofs.lemmas.Bool.{cases_eq, ne_eqb}
use Rattle.std.proofs.lemmas.List.Elements.{All-append, All-cons, All-nil}
use Rattle.json.specs.Token.{Token, begin_object, end_object, begin_array, end_array, key, string, number, boolean}
use Rattle.json.specs.Token.{null, bad}
use Rattle.json.specs.Word.{ends_word, word}
use Rattle.json.specs.Lex.{token, comma, colon, string_token, lex, between, fresh, punctuate, tokens}
use Rattle.json.specs.Json.{Json, Items, Members, no_items, item, no_members, member, value, if_last, max_depth}
use Rattle.json.specs.Json.{document}
use Rattle.json.specs.Json as json
use Rattle.json.specs.Print.{escape, quoted, token_text, begins, ends, separator, print_from, print, IsPrintable}
use Rattle.json.specs.Print.{ArePrintable, ArePrintableOrBad}
use Rattle.json.specs.Tree.{json_tokens, items_tokens, members_tokens, depth, HasNumbers, ItemsHaveNumbers}
use Rattle.json.specs.Tree.{MembersHaveNumbers}
use Rattle.json.proofs.Numbered.{ArePrintableOrBad-tokens}
use Rattle.json.proofs.Printed.Strings.{content-escape, lex-escape}
use Rattle.json.proofs.Printed.Numbers.{lex-number, in_word-ended}
use Rattle.json.proofs.Printed.Trees.{value-json_tokens, ArePrintable-json_tokens}
use Rattle.trace_page.specs.Escaping.{escaped, escaped_byte, less_than, HasNoMarkup}
use Rattle.trace_page.proofs.EscapedStrings.{escaped-append, content-escaped, lex-escaped_string}
use Rattle.trace_page.proofs.EscapedNumbers.{escaped-number}

-- ---- no `<`

none_in : (b : ℕ) (bs : List ℕ) → (b ≡ 60 → ⊥) → HasNoMarkup bs → HasNoMarkup (b ∷ bs)
none_in b bs other_byte rest = All-cons (λ x. x ≢ less_than) b bs other_byte rest

escape_has_none : HasNoMarkup (escaped_byte 60)
escape_has_none =
    none_in 92 (117 ∷ 48 ∷ 48 ∷ 51 ∷ 99 ∷ []) (λ e. omega (arith, e))
    (none_in 117 (48 ∷ 48 ∷ 51 ∷ 99 ∷ []) (λ e. omega (arith, e))
    (none_in 48 (48 ∷ 51 ∷ 99 ∷ []) (λ e. omega (arith, e)) (none_in 48 (51 ∷ 99 ∷ []) (λ e. omega (arith, e))
    (none_in 51 (99 ∷ []) (λ e. omega (arith, e)) (none_in 99 [] (λ e. omega (arith, e))
    (All-nil (λ x. x ≢ less_than)))))))

byte_has_none : (b : ℕ) → (b ≡ 60) ⊎ (b ≡ 60 → ⊥) → HasNoMarkup (escaped_byte b)
byte_has_none b (inl e) = subst (λ (x : ℕ). HasNoMarkup (escaped_byte x)) (sym e) escape_has_none
byte_has_none b (inr other_byte) =
    rw (ne_eqb b 60 other_byte) (none_in b [] other_byte (All-nil (λ x. x ≢ less_than)))

-- no byte of escaped text is `<`
pub has_none : (text : List ℕ) → HasNoMarkup (escaped text)
has_none [] = All-nil (λ b. b ≢ less_than)
has_none (b ∷ text) =
    All-append (λ x. x ≢ less_than) (escaped_byte b) (escaped text) (byte_has_none b (cases_eq b 60)) (has_none text)

-- ---- token by token

-- after a value stands a comma, a closing bracket or nothing
record Ended (ts : List Token) : Type 0 where
  plain : ends_word (print_from true ts) ≡ true
  in_page : ends_word (escaped (print_from true ts)) ≡ true

ended : (ts : List Token) → Ended ts
unfolding print_from
ended [] = record { plain = refl; in_page = refl }
ended (begin_object ∷ ts) = record { plain = refl; in_page = refl }
ended (end_object ∷ ts) = record { plain = refl; in_page = refl }
ended (begin_array ∷ ts) = record { plain = refl; in_page = refl }
ended (end_array ∷ ts) = record { plain = refl; in_page = refl }
ended (key s ∷ ts) = record { plain = refl; in_page = refl }
ended (string s ∷ ts) = record { plain = refl; in_page = refl }
ended (number s ∷ ts) = record { plain = refl; in_page = refl }
ended (boolean b ∷ ts) = record { plain = refl; in_page = refl }
ended (null ∷ ts) = record { plain = refl; in_page = refl }
ended (bad ∷ ts) = record { plain = refl; in_page = refl }

-- a string before x in a page, and before y, where both are lexed alike
quoted_same :
    (s x y : List ℕ) → lex between x ≡ lex between y →
    lex between (escaped (quoted s) ++ x) ≡ lex between (quoted s ++ y)
unfolding lex
quoted_same s x y same =
    ap (λ (l : List ℕ). lex between (34 ∷ l ++ x)) (escaped-append (escape s) (34 ∷ []))
    ∙ ap (λ (l : List ℕ). lex between (34 ∷ l)) (append_assoc (escaped (escape s)) (34 ∷ []) x)
    ∙ ap₂ (λ o l. token (string_token o) ∷ l) (content-escaped s x) (lex-escaped_string s x)
    ∙ ap (λ l. token (string s) ∷ l) same
    ∙ sym (ap (λ (l : List ℕ). lex between (34 ∷ l)) (append_assoc (escape s) (34 ∷ []) y)
    ∙ ap₂ (λ o l. token (string_token o) ∷ l) (content-escape s y) (lex-escape s y))

-- both texts that come after a value end it
record BothEnd (x y : List ℕ) : Type 0 where
  first : ends_word x ≡ true
  second : ends_word y ≡ true

token_same :
    (t : Token) (x y : List ℕ) → IsPrintable t → (ends t ≡ true → BothEnd x y) → lex between x ≡ lex between y →
    lex between (escaped (token_text t) ++ x) ≡ lex between (token_text t ++ y)
unfolding lex word
token_same begin_object x y h e same = ap (λ l. token begin_object ∷ l) same
token_same end_object x y h e same = ap (λ l. token end_object ∷ l) same
token_same begin_array x y h e same = ap (λ l. token begin_array ∷ l) same
token_same end_array x y h e same = ap (λ l. token end_array ∷ l) same
token_same (key s) x y h e same =
    ap (λ (l : List ℕ). lex between (l ++ x)) (escaped-append (quoted s) (58 ∷ []))
    ∙ ap (lex between) (append_assoc (escaped (quoted s)) (58 ∷ []) x)
    ∙ quoted_same s (58 ∷ x) (58 ∷ y) (ap (λ l. colon ∷ l) same)
    ∙ ap (lex between) (sym (append_assoc (quoted s) (58 ∷ []) y))
token_same (string s) x y h e same = quoted_same s x y same
token_same (number s) x y h e same =
    ap (λ (l : List ℕ). lex between (l ++ x)) (escaped-number s h) ∙ lex-number s x h (e refl).first
    ∙ ap (λ l. token (number s) ∷ l) same ∙ sym (lex-number s y h (e refl).second)
token_same (boolean true) x y h e same =
    ap₂ (λ b l. token (cond b (boolean true) bad) ∷ l) (e refl).first (in_word-ended x (e refl).first)
    ∙ ap (λ l. token (boolean true) ∷ l) same
    ∙ sym (ap₂ (λ b l. token (cond b (boolean true) bad) ∷ l) (e refl).second (in_word-ended y (e refl).second))
token_same (boolean false) x y h e same =
    ap₂ (λ b l. token (cond b (boolean false) bad) ∷ l) (e refl).first (in_word-ended x (e refl).first)
    ∙ ap (λ l. token (boolean false) ∷ l) same
    ∙ sym (ap₂ (λ b l. token (cond b (boolean false) bad) ∷ l) (e refl).second (in_word-ended y (e refl).second))
token_same null x y h e same =
    ap₂ (λ b l. token (cond b null bad) ∷ l) (e refl).first (in_word-ended x (e refl).first)
    ∙ ap (λ l. token null ∷ l) same
    ∙ sym (ap₂ (λ b l. token (cond b null bad) ∷ l) (e refl).second (in_word-ended y (e refl).second))
token_same bad x y h e same = absurd h

separator_same :
    (b : Bool) (x y : List ℕ) → lex between x ≡ lex between y →
    lex between (escaped (cond b (44 ∷ []) []) ++ x) ≡ lex between (cond b (44 ∷ []) [] ++ y)
unfolding lex
separator_same true x y same = ap (λ l. comma ∷ l) same
separator_same false x y same = same

both_end : (ts : List Token) (b : Bool) → b ≡ true → BothEnd (escaped (print_from b ts)) (print_from b ts)
both_end ts b is =
    subst (λ (c : Bool). BothEnd (escaped (print_from c ts)) (print_from c ts)) (sym is)
    (record { first = (ended ts).in_page; second = (ended ts).plain })

print_same :
    (c : Bool) (ts : List Token) → ArePrintable ts →
    lex between (escaped (print_from c ts)) ≡ lex between (print_from c ts)
unfolding print_from ArePrintable
print_same c [] h = refl
print_same c (t ∷ ts) h =
    let rest = print_from (ends t) ts in
    let comma_text = separator c t in
    ap (lex between) (escaped-append comma_text (token_text t ++ rest)
    ∙ ap (λ (l : List ℕ). escaped comma_text ++ l) (escaped-append (token_text t) rest))
    ∙ separator_same (c && begins t) (escaped (token_text t) ++ escaped rest) (token_text t ++ rest)
    (token_same t (escaped rest) rest h.0 (both_end ts (ends t)) (print_same (ends t) ts h.1))

-- ---- trees

mutual
  numbers_in : (j : Json) (rest : List Token) → ArePrintableOrBad (json_tokens j ++ rest) →
      HasNumbers j × ArePrintableOrBad rest
  numbers_in json.null rest h = (tt, h.1)
  numbers_in (json.boolean b) rest h = (tt, h.1)
  numbers_in (json.number s) rest h = (h.0, h.1)
  numbers_in (json.string s) rest h = (tt, h.1)
  numbers_in (json.array js) rest h = numbers_in_items js rest h.1
  numbers_in (json.object ms) rest h = numbers_in_members ms rest h.1

  numbers_in_items : (js : Items) (rest : List Token) → ArePrintableOrBad (items_tokens js ++ rest) →
      ItemsHaveNumbers js × ArePrintableOrBad rest
  numbers_in_items no_items rest h = (tt, h.1)
  numbers_in_items (item j js) rest h =
      let one = numbers_in j (items_tokens js ++ rest)
      (subst ArePrintableOrBad (append_assoc (json_tokens j) (items_tokens js) rest) h) in
      let others = numbers_in_items js rest one.1 in
      ((one.0, others.0), others.1)

  numbers_in_members : (ms : Members) (rest : List Token) → ArePrintableOrBad (members_tokens ms ++ rest) →
      MembersHaveNumbers ms × ArePrintableOrBad rest
  numbers_in_members no_members rest h = (tt, h.1)
  numbers_in_members (member k j ms) rest h =
      let one = numbers_in j (members_tokens ms ++ rest)
      (subst ArePrintableOrBad (append_assoc (json_tokens j) (members_tokens ms) rest) h.1) in
      let others = numbers_in_members ms rest one.1 in
      ((one.0, others.0), others.1)

-- what is read back has numbers where it has numbers
numbers_of : (j : Json) → tokens (print (json_tokens j)) ≡ json_tokens j → HasNumbers j
numbers_of j same =
    (numbers_in j [] (subst ArePrintableOrBad (same ∙ sym (append-nil (json_tokens j)))
    (ArePrintableOrBad-tokens (print (json_tokens j))))).0

-- escaped text of JSON is that JSON
pub escaped_document :
    (j : Json) → tokens (print (json_tokens j)) ≡ json_tokens j → depth j ≤ max_depth →
    document (escaped (print (json_tokens j))) ≡ Some j
escaped_document j same shallow =
    let lexed = print_same false (json_tokens j) (ArePrintable-json_tokens j (numbers_of j same)) in
    ap (option_and_then (λ p. if_last p.0 p.1))
    (ap (value max_depth) (ap (punctuate fresh) lexed ∙ same ∙ sym (append-nil (json_tokens j)))
    ∙ value-json_tokens j max_depth [] shallow)
