-- A number of JSON has no `<`.
use Rattle.std.proofs.Common.{◌≡◌, ℕ, suc, ◌+◌, Bool, true, false, cond, ◌||◌, ◌==◌, List, [], ◌∷◌, ◌++◌}
use Rattle.std.proofs.Common.{drop, Option, Some, None, option_and_then, unwrap_or, is_some, inl, inr, ◌⊎◌}
use Rattle.std.proofs.Common.{refl, sym, ap, ap₂, ◌∙◌, subst, arith, append_assoc, append-nil}
use Rattle.std.proofs.lemmas.Bool.{false≢true, eqb-true, leb-true, and_parts, or_cases}
use Rattle.std.specs.List.{prefix_len}
use Rattle.std.specs.Char.{is_ascii_digit}
use Rattle.json.specs.Word.{head, after_digits, after_minus, after_sign, after_whole, after_fraction, after_exponent}
use Rattle.json.specs.Word.{after_number}
use Rattle.json.specs.Print.{IsNumber}
use Rattle.trace_page.specs.Escaping.{escaped}
use Rattle.trace_page.proofs.EscapedStrings.{escaped-append, itself}

-- from t on some bytes come before r, and none of them is `<`
record Leads (t r : List ℕ) : Type 0 where
  front : List ℕ
  parts : t ≡ front ++ r
  same : escaped front ≡ front

here : (t : List ℕ) → Leads t t
here t = record { front = []; parts = refl; same = refl }

along : (t u r : List ℕ) → Leads t u → Leads u r → Leads t r
along t u r a b = record {
  front = a.front ++ b.front;
  parts = a.parts ∙ ap (λ (l : List ℕ). a.front ++ l) b.parts ∙ sym (append_assoc a.front b.front r);
  same = escaped-append a.front b.front ∙ ap₂ (λ (k l : List ℕ). k ++ l) a.same b.same;
}

one : (x : ℕ) (xs : List ℕ) → (x ≡ 60 → ⊥) → Leads (x ∷ xs) xs
one x xs other_byte = record { front = x ∷ []; parts = refl; same = itself x other_byte }

-- past the first byte, where that is another one
past : (t : List ℕ) (c : ℕ) → (c ≡ 60 → ⊥) → (head t == c) ≡ true → Leads t (drop 1 t)
past [] c other_byte e = here []
past (x ∷ xs) c other_byte e = one x xs (λ is. other_byte (sym (eqb-true x c e) ∙ is))

either :
    (t : List ℕ) (a b : ℕ) → (a ≡ 60 → ⊥) → (b ≡ 60 → ⊥) → ((head t == a) ≡ true) ⊎ ((head t == b) ≡ true) →
    Leads t (drop 1 t)
either t a b p q (inl e) = past t a p e
either t a b p q (inr e) = past t b q e

digit_run : (b : Bool) (n x : ℕ) (xs : List ℕ) → (b ≡ true → x ≡ 60 → ⊥) → Leads xs (drop n xs) →
    Leads (x ∷ xs) (drop (cond b (1 + n) 0) (x ∷ xs))
digit_run false n x xs other_byte rest = here (x ∷ xs)
digit_run true n x xs other_byte rest =
    let next : suc n ≡ 1 + n = omega arith in
    subst (λ (k : ℕ). Leads (x ∷ xs) (drop k (x ∷ xs))) next
    (along (x ∷ xs) xs (drop n xs) (one x xs (other_byte refl)) rest)

digits_lead : (t : List ℕ) → Leads t (drop (prefix_len is_ascii_digit t) t)
digits_lead [] = here []
digits_lead (x ∷ xs) =
    digit_run (is_ascii_digit x) (prefix_len is_ascii_digit xs) x xs
    (λ e is. absurd (omega (arith, is, leb-true x 57 (and_parts _ _ e).1))) (digits_lead xs)

-- what is left is that of the answer
left : (t u r : List ℕ) → Leads t u → Some u ≡ Some r → Leads t r
left t u r h e = subst (Leads t) (ap (λ (o : Option (List ℕ)). unwrap_or o u) e) h

by_test :
    (t r : List ℕ) (b : Bool) (x y : Option (List ℕ)) → (b ≡ true → x ≡ Some r → Leads t r) →
    (y ≡ Some r → Leads t r) → cond b x y ≡ Some r → Leads t r
by_test t r true x y f g e = f refl e
by_test t r false x y f g e = g e

optional :
    (t u : List ℕ) (b : Bool) → (b ≡ true → Leads t u) → Leads t (cond b u t)
optional t u true f = f refl
optional t u false f = here t

never : {A : Type 0} (r : List ℕ) → None ≡ Some r → A
never r e = absurd (false≢true (ap is_some e))

digits : (t r : List ℕ) → after_digits t ≡ Some r → Leads t r
digits t r = by_test t r (prefix_len is_ascii_digit t == 0) None _ (λ z e. never r e) (left t _ r (digits_lead t))

whole : (t r : List ℕ) → after_whole t ≡ Some r → Leads t r
whole t r =
    by_test t r (head t == 48) _ _ (λ z. left t (drop 1 t) r (past t 48 (λ is. omega (arith, is)) z)) (digits t r)

fraction : (t r : List ℕ) → after_fraction t ≡ Some r → Leads t r
fraction t r =
    by_test t r (head t == 46) _ _
    (λ z e. along t (drop 1 t) r (past t 46 (λ is. omega (arith, is)) z) (digits (drop 1 t) r e)) (left t t r (here t))

signs : (t : List ℕ) → Leads t (after_sign t)
signs t =
    optional t (drop 1 t) _ (λ z. either t 45 43 (λ is. omega (arith, is)) (λ is. omega (arith, is)) (or_cases _ _ z))

exponent : (t r : List ℕ) → after_exponent t ≡ Some r → Leads t r
exponent t r =
    by_test t r ((head t == 101) || (head t == 69)) _ _
    (λ z e. along t (drop 1 t) r
    (either t 101 69 (λ is. omega (arith, is)) (λ is. omega (arith, is)) (or_cases _ _ z))
    (along (drop 1 t) (after_sign (drop 1 t)) r (signs (drop 1 t)) (digits (after_sign (drop 1 t)) r e)))
    (left t t r (here t))

then :
    (t r : List ℕ) (f : List ℕ → Option (List ℕ)) → ((u : List ℕ) → f u ≡ Some r → Leads u r) →
    (o : Option (List ℕ)) → ((u : List ℕ) → o ≡ Some u → Leads t u) → option_and_then f o ≡ Some r → Leads t r
then t r f g None h e = never r e
then t r f g (Some u) h e = along t u r (h u refl) (g u e)

number_leads : (s : List ℕ) → IsNumber s → Leads s []
unfolding after_number
number_leads s =
    then s [] after_exponent (λ u. exponent u []) _
    (λ u. then s u after_fraction (λ w. fraction w u) _
    (λ w e. along s (after_minus s) w
    (optional s (drop 1 s) _ (λ z. past s 45 (λ is. omega (arith, is)) z)) (whole (after_minus s) w e)))

-- a number stands for itself
pub escaped-number : (s : List ℕ) → IsNumber s → escaped s ≡ s
escaped-number s h =
    let l = number_leads s h in
    let is : s ≡ l.front = l.parts ∙ append-nil l.front in
    ap escaped is ∙ l.same ∙ sym is
