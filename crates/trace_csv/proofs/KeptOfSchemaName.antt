-- What stays of the name of a schema.
use Rattle.std.proofs.Common.{◌≡◌, ℕ, zero, suc, ◌^◌, subst, Bool, true, false, List, [], ◌∷◌, ◌++◌, length, take}
use Rattle.std.proofs.Common.{get_or, ◌+◌, ◌-◌, ◌<◌, ◌≤◌, refl, sym, ap}
use Rattle.std.proofs.Common.{◌∙◌, arith, filter, append_assoc, append-nil}
use Rattle.std.specs.List.{All}
use Rattle.std.proofs.lemmas.List.Elements.{All-append, All-take, All-map, All-nil, All-cons}
use Rattle.std.proofs.lemmas.List.{take_all, take_more, take-append-le, length-append}
use Rattle.std.proofs.lemmas.List.Elements.{filter-append, filter_passes}
use Rattle.std.proofs.lemmas.Int.Digits.{all_below_base_digits_of}
use Rattle.std.proofs.lemmas.Fmt.{decimal-digits_of, decimal_digit}
use Rattle.std.specs.Int.Digits.{digits_of}
use Rattle.std.specs.Fmt.{decimal}
use Rattle.std.specs.List.{AllByRecursion}
use Rattle.trace_csv.specs.Files.{is_kept, table_name, dash}

-- what is kept of the first bytes
abbrev pub kept_front : List ℕ → ℕ → List ℕ
kept_front name i = filter is_kept (take i name)

one_kept : (b : ℕ) → is_kept b ≡ true → filter is_kept (b ∷ []) ≡ b ∷ []
one_kept b is = search is

one_left : (b : ℕ) → is_kept b ≡ false → filter is_kept (b ∷ []) ≡ []
one_left b is = search is

front_more :
    (name : List ℕ) (i : ℕ) → i < length name →
    kept_front name (i + 1) ≡ kept_front name i ++ filter is_kept (get_or name i 0 ∷ [])
front_more name i lt =
    ap (filter is_kept) (take_more name i 0 lt) ∙ filter-append is_kept (take i name) (get_or name i 0 ∷ [])

-- the loop's state: the text, and how many may still be kept
pub record HasKept (head name : List ℕ) (i left : ℕ) (text : List ℕ) : Type 0 where
  pub is : text ≡ head ++ take 64 (kept_front name i)
  pub left_is : left ≡ 64 - length (kept_front name i)

-- one more was kept
pub kept_on :
    {head name : List ℕ} {i left : ℕ} {old : List ℕ} (less : ℕ) (new : List ℕ) → HasKept head name i left old →
    i < length name → is_kept (get_or name i 0) ≡ true → 0 < left → new ≡ old ++ get_or name i 0 ∷ [] →
    less ≡ left - 1 → HasKept head name (i + 1) less new
kept_on {head} {name} {i} {left} less new h lt is some put fewer =
    let b = get_or name i 0 in
    let front = kept_front name i in
    let more : kept_front name (i + 1) ≡ front ++ b ∷ [] =
    front_more name i lt ∙ ap (λ (l : List ℕ). front ++ l) (one_kept b is) in
    let room : length front < 64 = omega (arith, h.left_is, some) in
    let long : length (front ++ b ∷ []) ≡ length front + 1 = length-append front (b ∷ []) in
    let count : length (kept_front name (i + 1)) ≡ length front + 1 = ap (λ (l : List ℕ). length l) more ∙ long in
    record {
      is = put ∙ ap (λ (t : List ℕ). t ++ b ∷ []) (h.is ∙ ap (λ (l : List ℕ). head ++ l)
          (take_all 64 front (omega (arith, room)))) ∙ append_assoc head front (b ∷ [])
          ∙ ap (λ (l : List ℕ). head ++ l) (sym (ap (take 64) more
          ∙ take_all 64 (front ++ b ∷ []) (omega (arith, room, long))));
      left_is = omega (arith, h.left_is, count, some, fewer);
    }

-- one more was not, since it is none that stays
pub other_left :
    {head name : List ℕ} {i left : ℕ} {text : List ℕ} → HasKept head name i left text → i < length name →
    is_kept (get_or name i 0) ≡ false → HasKept head name (i + 1) left text
other_left {head} {name} {i} h lt is =
    let b = get_or name i 0 in
    let front = kept_front name i in
    let more : kept_front name (i + 1) ≡ front =
    front_more name i lt ∙ ap (λ (l : List ℕ). front ++ l) (one_left b is) ∙ append-nil front in
    record {
      is = h.is ∙ ap (λ (l : List ℕ). head ++ take 64 l) (sym more);
      left_is = h.left_is ∙ ap (λ (l : List ℕ). 64 - length l) (sym more);
    }

-- one more was not, since as many stay as may
pub full_left :
    {head name : List ℕ} {i left : ℕ} {text : List ℕ} → HasKept head name i left text → i < length name → left ≡ 0 →
    HasKept head name (i + 1) left text
full_left {head} {name} {i} h lt none =
    let b = get_or name i 0 in
    let front = kept_front name i in
    let next = filter is_kept (b ∷ []) in
    let more : kept_front name (i + 1) ≡ front ++ next = front_more name i lt in
    let full : 64 ≤ length front = omega (arith, h.left_is, none) in
    let long : length (kept_front name (i + 1)) ≡ length front + length next =
    ap (λ (l : List ℕ). length l) more ∙ length-append front next in
    record {
      is = h.is ∙ ap (λ (l : List ℕ). head ++ l) (sym (ap (take 64) more ∙ take-append-le 64 front next full));
      left_is = omega (arith, none, full, long);
    }

-- all bytes were looked at
pub all_kept :
    (head name : List ℕ) (i left : ℕ) (text : List ℕ) → length name ≤ i → HasKept head name i left text →
    text ≡ head ++ take 64 (filter is_kept name)
all_kept head name i left text le h =
    h.is ∙ ap (λ (l : List ℕ). head ++ take 64 (filter is_kept l)) (take_all i name le)

-- ---- the characters of the name of a table

abbrev Kept : ℕ → Type 0
Kept b = is_kept b ≡ true

digit_kept : (d : ℕ) → d < 10 → Kept (48 + d)
digit_kept zero lt = refl
digit_kept (suc zero) lt = refl
digit_kept (suc (suc zero)) lt = refl
digit_kept (suc (suc (suc zero))) lt = refl
digit_kept (suc (suc (suc (suc zero)))) lt = refl
digit_kept (suc (suc (suc (suc (suc zero))))) lt = refl
digit_kept (suc (suc (suc (suc (suc (suc zero)))))) lt = refl
digit_kept (suc (suc (suc (suc (suc (suc (suc zero))))))) lt = refl
digit_kept (suc (suc (suc (suc (suc (suc (suc (suc zero)))))))) lt = refl
digit_kept (suc (suc (suc (suc (suc (suc (suc (suc (suc zero))))))))) lt = refl
digit_kept (suc (suc (suc (suc (suc (suc (suc (suc (suc (suc d)))))))))) lt = absurd (omega (arith, lt))

digits_kept : (ds : List ℕ) → AllByRecursion (λ d. d < 10) ds → All (λ d. Kept (48 + d)) ds
digits_kept [] all = All-nil (λ d. Kept (48 + d))
digits_kept (d ∷ ds) all = All-cons (λ d. Kept (48 + d)) d ds (digit_kept d all.0) (digits_kept ds all.1)

number_kept : (n : ℕ) → n < 2 ^ 64 → All Kept (decimal n)
number_kept zero lt =
    subst (All Kept) (sym (decimal_digit 0 (omega arith))) (All-cons Kept 48 [] refl (All-nil Kept))
number_kept (suc n) lt =
    let ds = digits_of 10 (suc n) in
    subst (All Kept) (sym (decimal-digits_of (suc n) (omega arith) lt))
    (All-map Kept (λ d. 48 + d) ds (digits_kept ds (all_below_base_digits_of 10 (suc n) (omega arith))))

-- all of them stay as they are
pub table_name_kept : (n : ℕ) (name : List ℕ) → n < 2 ^ 64 → All Kept (table_name n name)
table_name_kept n name lt =
    All-append Kept (decimal n) (dash ∷ take 64 (filter is_kept name)) (number_kept n lt)
    (All-cons Kept dash (take 64 (filter is_kept name)) refl
    (All-take Kept 64 (filter is_kept name) (filter_passes is_kept name)))
