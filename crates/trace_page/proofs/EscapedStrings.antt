-- An escaped string is read back once `<` is escaped too, and the lexer passes over it.
use Rattle.std.proofs.Common.{◌≡◌, ℕ, zero, suc, ◌<◌, ◌≤◌, List, [], ◌∷◌, ◌++◌, Some, inl, inr, ◌⊎◌, refl, sym, ap, ◌∙◌}
use Rattle.std.proofs.Common.{subst, arith, append_assoc, Bool, true, false, cond}
use Rattle.std.proofs.lemmas.Bool.{cases_eq, cases_lt, ne_eqb, le-ltb}
use Rattle.std.proofs.lemmas.Grind.{flat_map-append}
use lib.Utf8.{encode}
use Rattle.json.specs.Text.{content, plain, prepend, code_unit, short_escape}
use Rattle.json.specs.Word.{is_operator, is_space}
use Rattle.json.specs.Lex.{Lexeme, Mode, lex, lex_byte, between, in_string, operator, space, other}
use Rattle.json.specs.Print.{escape_byte, escape}
use Rattle.json.proofs.Printed.Strings.{escape_byte_plain}
use Rattle.trace_page.specs.Escaping.{escaped, escaped_byte}

-- escaping goes part by part
pub escaped-append : (a b : List ℕ) → escaped (a ++ b) ≡ escaped a ++ escaped b
escaped-append a b = flat_map-append escaped_byte a b

-- a byte that is no `<` stands for itself
pub itself : (x : ℕ) → (x ≡ 60 → ⊥) → escaped (x ∷ []) ≡ x ∷ []
itself x other_byte = rw (ne_eqb x 60 other_byte)

-- what both readers make of the escape of x, escaped, before any text
record Passes (x : ℕ) : Type 0 where
  read : (r : List ℕ) → content plain (escaped (escape_byte x) ++ r) ≡ prepend (x ∷ []) (content plain r)
  lexed : (r : List ℕ) → lex in_string (escaped (escape_byte x) ++ r) ≡ lex in_string r

-- P holds below n, counted down from the top
abbrev Each : (ℕ → Type 0) → ℕ → Type 0
Each P zero = Unit {0}
Each P (suc n) = P n × Each P n

each_sound : (P : ℕ → Type 0) (n : ℕ) → Each P n → (x : ℕ) → x < n → P x
each_sound P zero h x lt = absurd (omega arith)
each_sound P (suc n) h x lt = go (each_sound P n h.1 x) (cases_eq x n)
  where
    go : (x < n → P x) → (x ≡ n) ⊎ (x ≡ n → ⊥) → P x
    go below (inl e) = subst P (sym e) h.0
    go below (inr ne) = below (omega arith)

controls : Each Passes 32
unfolding escape_byte content lex code_unit short_escape encode
controls = (
  record { read = λ r. refl; lexed = λ r. refl },
  (
    record { read = λ r. refl; lexed = λ r. refl },
    (
      record { read = λ r. refl; lexed = λ r. refl },
      (
        record { read = λ r. refl; lexed = λ r. refl },
        (
          record { read = λ r. refl; lexed = λ r. refl },
          (
            record { read = λ r. refl; lexed = λ r. refl },
            (
              record { read = λ r. refl; lexed = λ r. refl },
              (
                record { read = λ r. refl; lexed = λ r. refl },
                (
                  record { read = λ r. refl; lexed = λ r. refl },
                  (
                    record { read = λ r. refl; lexed = λ r. refl },
                    (
                      record { read = λ r. refl; lexed = λ r. refl },
                      (
                        record { read = λ r. refl; lexed = λ r. refl },
                        (
                          record { read = λ r. refl; lexed = λ r. refl },
                          (
                            record { read = λ r. refl; lexed = λ r. refl },
                            (
                              record { read = λ r. refl; lexed = λ r. refl },
                              (
                                record { read = λ r. refl; lexed = λ r. refl },
                                (
                                  record { read = λ r. refl; lexed = λ r. refl },
                                  (
                                    record { read = λ r. refl; lexed = λ r. refl },
                                    (
                                      record { read = λ r. refl; lexed = λ r. refl },
                                      (
                                        record { read = λ r. refl; lexed = λ r. refl },
                                        (
                                          record { read = λ r. refl; lexed = λ r. refl },
                                          (
                                            record { read = λ r. refl; lexed = λ r. refl },
                                            (
                                              record { read = λ r. refl; lexed = λ r. refl },
                                              (
                                                record { read = λ r. refl; lexed = λ r. refl },
                                                (
                                                  record { read = λ r. refl; lexed = λ r. refl },
                                                  (
                                                    record { read = λ r. refl; lexed = λ r. refl },
                                                    (
                                                      record { read = λ r. refl; lexed = λ r. refl },
                                                      (
                                                        record { read = λ r. refl; lexed = λ r. refl },
                                                        (
                                                          record { read = λ r. refl; lexed = λ r. refl },
                                                          (
                                                            record { read = λ r. refl; lexed = λ r. refl },
                                                            (
                                                              record { read = λ r. refl; lexed = λ r. refl },
                                                              (
                                                                record { read = λ r. refl; lexed = λ r. refl },
                                                                tt,
                                                              ),
                                                            ),
                                                          ),
                                                        ),
                                                      ),
                                                    ),
                                                  ),
                                                ),
                                              ),
                                            ),
                                          ),
                                        ),
                                      ),
                                    ),
                                  ),
                                ),
                              ),
                            ),
                          ),
                        ),
                      ),
                    ),
                  ),
                ),
              ),
            ),
          ),
        ),
      ),
    ),
  ),
)

quote_passes : Passes 34
unfolding escape_byte content lex short_escape
quote_passes = record { read = λ r. refl; lexed = λ r. refl }

backslash_passes : Passes 92
unfolding escape_byte content lex short_escape
backslash_passes = record { read = λ r. refl; lexed = λ r. refl }

less_than_passes : Passes 60
unfolding escape_byte content lex code_unit short_escape encode
less_than_passes = record { read = λ r. refl; lexed = λ r. refl }

stays_inside :
    (o s : Bool) (x : ℕ) (r : List ℕ) (k : Mode → List Lexeme) →
    lex_byte in_string (cond o operator (cond s space other)) x r k ≡ k in_string
stays_inside true s x r k = refl
stays_inside false true x r k = refl
stays_inside false false x r k = refl

plain_passes : (x : ℕ) → (x ≡ 34 → ⊥) → (x ≡ 92 → ⊥) → (x ≡ 60 → ⊥) → 32 ≤ x → Passes x
unfolding content lex
plain_passes x q b m l =
    let same : escaped (escape_byte x) ≡ x ∷ [] = ap escaped (escape_byte_plain x q b l) ∙ itself x m in
    record {
      read = λ r. rw (same, ne_eqb x 34 q, ne_eqb x 92 b, le-ltb x 32 l);
      lexed = λ r. rw (same, ne_eqb x 34 q, ne_eqb x 92 b)
          (stays_inside (is_operator x) (is_space x) x r (λ m. lex m r));
    }

passes : (x : ℕ) → Passes x
passes x = go (cases_eq x 34) (cases_eq x 92) (cases_eq x 60) (cases_lt x 32)
  where
    go :
        (x ≡ 34) ⊎ (x ≡ 34 → ⊥) → (x ≡ 92) ⊎ (x ≡ 92 → ⊥) → (x ≡ 60) ⊎ (x ≡ 60 → ⊥) → (x < 32) ⊎ (32 ≤ x) →
        Passes x
    go (inl e) b m c = subst Passes (sym e) quote_passes
    go (inr q) (inl e) m c = subst Passes (sym e) backslash_passes
    go (inr q) (inr b) (inl e) c = subst Passes (sym e) less_than_passes
    go (inr q) (inr b) (inr m) (inl c) = each_sound Passes 32 controls x c
    go (inr q) (inr b) (inr m) (inr l) = plain_passes x q b m l

-- the escape of a byte and of what comes after it
next_byte :
    (x : ℕ) (s r : List ℕ) → escaped (escape (x ∷ s)) ++ r ≡ escaped (escape_byte x) ++ (escaped (escape s) ++ r)
next_byte x s r =
    ap (λ (l : List ℕ). l ++ r) (escaped-append (escape_byte x) (escape s))
    ∙ append_assoc (escaped (escape_byte x)) (escaped (escape s)) r

-- the content of an escaped string is that string
pub content-escaped : (s r : List ℕ) → content plain (escaped (escape s) ++ 34 ∷ r) ≡ Some s
unfolding content
content-escaped [] r = refl
content-escaped (x ∷ s) r =
    ap (content plain) (next_byte x s (34 ∷ r)) ∙ (passes x).read _ ∙ ap (prepend (x ∷ [])) (content-escaped s r)

-- the lexer passes over it
pub lex-escaped_string : (s r : List ℕ) → lex in_string (escaped (escape s) ++ 34 ∷ r) ≡ lex between r
unfolding lex
lex-escaped_string [] r = refl
lex-escaped_string (x ∷ s) r =
    ap (lex in_string) (next_byte x s (34 ∷ r)) ∙ (passes x).lexed _ ∙ lex-escaped_string s r
