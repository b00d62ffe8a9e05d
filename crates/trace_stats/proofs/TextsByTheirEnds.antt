-- Texts that are compared by their first and their last four bytes.
use Rattle.std.proofs.Common.{◌≡◌, ◌<◌, ◌≤◌, ◌+◌, ◌-◌, ℕ, nat_eq, Bool, true, false, List, [], ◌∷◌, ◌++◌, length}
use Rattle.std.proofs.Common.{take, drop, slice_index, refl, sym, ap, ap₂, subst, ◌∙◌, inl, inr, arith, length-take}
use Rattle.std.proofs.Common.{length-drop, drop-drop}
use Rattle.std.specs.Bool.{Decides}
use Rattle.std.specs.Cmp.{unsigned_Decides}
use Rattle.std.specs.Cmp.Lexicographic.{pointwise}
use Rattle.std.specs.Int.{w32, from_le_bytes, to_le_bytes}
use Rattle.std.proofs.lemmas.Bool.{cases_lt, false_from_ne_true}
use Rattle.std.proofs.lemmas.List.{get_or_past, get_or-take, take_all, take-append-drop}
use Rattle.std.proofs.lemmas.Nat.{le_bytes_4}
use Rattle.std.proofs.lemmas.Slice.Eq.{slice_eq-Decides}
use Rattle.trace_wire.specs.Schemas.{Field, same_field}
use Rattle.trace_wire.proofs.SameEntries.{same_field-Decides}

-- what is equal passes the test
decided : {P : Type 0} (p q : Bool) → Decides p P → Decides q P → p ≡ q
decided true q one other = sym (other.1 (one.0 refl))
decided false q one other =
    sym (false_from_ne_true q (λ e. let same : false ≡ true = one.1 (other.0 e) in absurd (cc)))

-- what is not equal fails it
fails : {P : Type 0} (q : Bool) → Decides q P → (P → ⊥) → false ≡ q
fails q same not = sym (false_from_ne_true q (λ e. not (same.0 e)))

-- the test for equal texts
same_texts : (a b : List ℕ) → Decides (pointwise nat_eq a b) (a ≡ b)
same_texts a b = slice_eq-Decides unsigned_Decides a b _ refl

-- the test for equal lists of fields
same_lists : (a b : List Field) → Decides (pointwise same_field a b) (a ≡ b)
same_lists a b = slice_eq-Decides same_field-Decides a b _ refl

-- lists of fields of different lengths are not the same
pub fields_apart : (a b : List Field) → (length a ≡ length b → ⊥) → false ≡ pointwise same_field a b
fields_apart a b apart = fails _ (same_lists a b) (λ e. apart (ap length e))

-- the first four bytes
take_four :
    (s : List ℕ) → 4 ≤ length s → slice_index s 0 ∷ slice_index s 1 ∷ slice_index s 2 ∷ slice_index s 3 ∷ [] ≡ take 4 s
take_four [] many = absurd (omega arith)
take_four (a ∷ []) many = absurd (omega arith)
take_four (a ∷ b ∷ []) many = absurd (omega arith)
take_four (a ∷ b ∷ c ∷ []) many = absurd (omega arith)
take_four (a ∷ b ∷ c ∷ d ∷ s) many = refl

-- the number that the first four bytes are
abbrev pub word : List ℕ → ℕ
word bytes = from_le_bytes w32 (take 4 bytes)

-- the number that four bytes are is that of the first four
pub word_is :
    (s : List ℕ) (n : ℕ) → 4 ≤ length s →
    n ≡ from_le_bytes w32 (slice_index s 0 ∷ slice_index s 1 ∷ slice_index s 2 ∷ slice_index s 3 ∷ []) → n ≡ word s
word_is s n many is = is ∙ ap (from_le_bytes w32) (take_four s many)

-- it has these bytes
pub word_bytes :
    (s : List ℕ) (n : ℕ) → 4 ≤ length s → ((i : ℕ) → slice_index s i < 256) → n ≡ word s → to_le_bytes w32 n ≡ take 4 s
word_bytes s n many fits is =
    le_bytes_4 (take 4 s) n (omega (arith, length-take 4 s))
    (λ i. elim (cases_lt i 4) [
      | inl lt ↦ omega (arith, get_or-take 4 s i 0 lt, fits i)
      | inr le ↦ omega (arith, get_or_past (take 4 s) i 0 (omega (arith, length-take 4 s)))
    ]) is

-- texts of one length of four to eight bytes
pub record AreShort (a b : List ℕ) : Type 0 where
  pub alike : length a ≡ length b
  pub least : 4 ≤ length a
  pub most : length a ≤ 8

-- with equal first and last four bytes they are the same
by_fronts :
    (a b : List ℕ) → AreShort a b → take 4 a ≡ take 4 b → drop (length a - 4) a ≡ drop (length a - 4) b → a ≡ b
by_fronts a b short front end =
    let k = length a - 4 in
    let fits : k + (8 - length a) ≡ 4 = omega (arith, short.least, short.most) in
    let back_a : drop 4 a ≡ drop (8 - length a) (drop k a) =
    ap (λ (n : ℕ). drop n a) (sym fits) ∙ sym (drop-drop (8 - length a) k a) in
    let back_b : drop (8 - length a) (drop k b) ≡ drop 4 b =
    drop-drop (8 - length a) k b ∙ ap (λ (n : ℕ). drop n b) fits in
    let rest : drop 4 a ≡ drop 4 b = back_a ∙ ap (drop (8 - length a)) end ∙ back_b in
    sym (take-append-drop 4 a) ∙ ap₂ (λ (x y : List ℕ). x ++ y) front rest ∙ take-append-drop 4 b

-- a number is the word of a text, and has its first four bytes
pub record IsWordOf (s : List ℕ) (n : ℕ) : Type 0 where
  pub number : n ≡ word s
  pub bytes : to_le_bytes w32 n ≡ take 4 s

-- two texts have the same word
pub record HaveOneWord (s t : List ℕ) (m n : ℕ) : Type 0 where
  pub one : IsWordOf s m
  pub other : IsWordOf t n
  pub same : m ≡ n

-- then they have the same first four bytes
one_word : (s t : List ℕ) (m n : ℕ) → HaveOneWord s t m n → take 4 s ≡ take 4 t
one_word s t m n w = sym w.one.bytes ∙ ap (to_le_bytes w32) w.same ∙ w.other.bytes

-- four bytes are all of a text of four
all_four : (s : List ℕ) → length s ≡ 4 → take 4 s ≡ s
all_four s is = take_all 4 s (omega (arith, is))

-- where the first words are the same, the last ones tell; these are of fronts of what is left
pub last_tells :
    (a b : List ℕ) (x y u v : ℕ) → AreShort a b → HaveOneWord a b x y →
    IsWordOf (take (length a - (length a - 4)) (drop (length a - 4) a)) u →
    IsWordOf (take (length b - (length a - 4)) (drop (length a - 4) b)) v → nat_eq u v ≡ pointwise nat_eq a b
last_tells a b x y u v short first last_one last_other =
    let k = length a - 4 in
    let left : length (drop k a) ≡ 4 = omega (arith, length-drop k a, short.least) in
    let right : length (drop k b) ≡ 4 = omega (arith, length-drop k b, short.least, short.alike) in
    let end_a : take (length a - k) (drop k a) ≡ drop k a =
    take_all (length a - k) (drop k a) (omega (arith, left, short.least)) in
    let end_b : take (length b - k) (drop k b) ≡ drop k b =
    take_all (length b - k) (drop k b) (omega (arith, right, short.least, short.alike)) in
    let of_one : IsWordOf (drop k a) u = subst (λ (l : List ℕ). IsWordOf l u) end_a last_one in
    let of_other : IsWordOf (drop k b) v = subst (λ (l : List ℕ). IsWordOf l v) end_b last_other in
    decided _ _ (
      (λ e. by_fronts a b short (one_word a b x y first)
          (sym (all_four (drop k a) left)
          ∙ one_word (drop k a) (drop k b) u v
          (record { one = of_one; other = of_other; same = (unsigned_Decides u v).0 e })
          ∙ all_four (drop k b) right)),
      (λ e. (unsigned_Decides u v).1
          (of_one.number ∙ ap (λ (l : List ℕ). word (drop k l)) e ∙ sym of_other.number)),
    ) (same_texts a b)
