-- One number more.
use Rattle.std.proofs.Common.{◌≡◌, ◌<◌, ◌≤◌, ◌⊎◌, inl, inr, ◌+◌, ◌==◌, ℕ, Bool, true, false, cond, List, [], ◌∷◌}
use Rattle.std.proofs.Common.{◌++◌}
use Rattle.std.proofs.Common.{zero, suc, min, max, length, get_or, set, replicate, sym, ap, subst, refl, ◌∙◌, add-zero}
use Rattle.std.proofs.Common.{arith}
use Rattle.std.proofs.Common.{length-append}
use Rattle.std.specs.List.{All, Contains, count_by}
use Rattle.std.proofs.lemmas.Bool.{cases_lt, eqb-true, eqb-false}
use Rattle.std.proofs.lemmas.List.{get_or-replicate, get_or-set_same, get_or-set_other}
use Rattle.std.proofs.lemmas.List.Elements.{All-nil, All-push, Contains-push, Contains-append_left}
use Rattle.std.proofs.lemmas.List.Sums.{sum_by_push, sum_by-le, count_by-le-length}
use Rattle.trace_stats.specs.Summaries.{IsSummaryOf, binary_digits, most_counted}
use Rattle.trace_stats.specs.declared.summary.Summary.{Summary}

-- ---- the least and the greatest

pub none_less_more :
    (xs : List ℕ) (n old new count : ℕ) → count ≡ length xs → new ≤ n → (0 < count → new ≤ old) →
    All (λ x. old ≤ x) xs → All (λ x. new ≤ x) (xs ++ n ∷ [])
none_less_more xs n old new count is le others all =
    All-push (λ x. new ≤ x) xs n
    (λ k d here.
    let below : new ≤ old = others (omega arith) in let a : old ≤ get_or xs k d = all k d here in omega arith) le

pub none_greater_more :
    (xs : List ℕ) (n old new count : ℕ) → count ≡ length xs → n ≤ new → (0 < count → old ≤ new) →
    All (λ x. x ≤ old) xs → All (λ x. x ≤ new) (xs ++ n ∷ [])
none_greater_more xs n old new count is le others all =
    All-push (λ x. x ≤ new) xs n
    (λ k d here.
    let above : old ≤ new = others (omega arith) in let a : get_or xs k d ≤ old = all k d here in omega arith) le

pub one_of_them :
    (xs : List ℕ) (n old new count : ℕ) → count ≡ length xs → (new ≡ n) ⊎ ((0 < count) × (new ≡ old)) →
    (0 < length xs → Contains xs old) → Contains (xs ++ n ∷ []) new
one_of_them xs n old new count is (inl e) has = subst (Contains (xs ++ n ∷ [])) (sym e) (Contains-push xs n)
one_of_them xs n old new count is (inr h) has =
    let some : 0 < length xs = let p = h.0 in omega arith in
    subst (Contains (xs ++ n ∷ [])) (sym h.1) (Contains-append_left xs (n ∷ []) old (has some))

-- ---- how many there are of each number of digits

counted_by :
    (b : Bool) (l : List ℕ) (d k : ℕ) → (d == k) ≡ b → d < length l →
    get_or (set l d (get_or l d 0 + 1)) k 0 ≡ get_or l k 0 + cond b 1 0
counted_by true l d k same lt =
    let e : d ≡ k = eqb-true d k same in
    subst (λ (j : ℕ). get_or (set l d (get_or l d 0 + 1)) j 0 ≡ get_or l j 0 + 1) e
    (get_or-set_same l d (get_or l d 0 + 1) 0 lt)
counted_by false l d k other lt =
    get_or-set_other l d k (get_or l d 0 + 1) 0 (λ e. eqb-false d k other (sym e)) ∙ sym (add-zero (get_or l k 0))

pub by_digits_more :
    (xs : List ℕ) (n : ℕ) (l : List ℕ) (k : ℕ) → binary_digits n < length l →
    get_or l k 0 ≡ count_by (λ x. binary_digits x == k) xs →
    get_or (set l (binary_digits n) (get_or l (binary_digits n) 0 + 1)) k 0
    ≡ count_by (λ x. binary_digits x == k) (xs ++ n ∷ [])
by_digits_more xs n l k lt is =
    counted_by (binary_digits n == k) l (binary_digits n) k refl lt
    ∙ ap (λ (c : ℕ). c + cond (binary_digits n == k) 1 0) is
    ∙ sym (sum_by_push (λ x. cond (binary_digits x == k) 1 0) xs n)

-- ---- all of it

-- the least of the numbers, with one more of them
pub record LeastWith (n : ℕ) (old new : Summary) : Type 0 where
  pub below : new.least ≤ n
  pub others : 0 < old.count → new.least ≤ old.least
  pub which : (new.least ≡ n) ⊎ ((0 < old.count) × (new.least ≡ old.least))

-- and the greatest
pub record GreatestWith (n : ℕ) (old new : Summary) : Type 0 where
  pub above : n ≤ new.greatest
  pub others : 0 < old.count → old.greatest ≤ new.greatest
  pub which : (new.greatest ≡ n) ⊎ ((0 < old.count) × (new.greatest ≡ old.greatest))

-- where there is one that is not the greatest that there can be, some were counted
some_less :
    (count least n : ℕ) → (count ≡ 0 → least ≡ 18446744073709551615) → n < 18446744073709551616 → least < n → 0 < count
some_less zero least n none fits lt = absurd (omega (arith, none refl, fits, lt))
some_less (suc count) least n none fits lt = omega arith

-- and one that is not the least
some_greater : (count greatest n : ℕ) → (count ≡ 0 → greatest ≡ 0) → n < greatest → 0 < count
some_greater zero greatest n none lt = absurd (omega (arith, none refl, lt))
some_greater (suc count) greatest n none lt = omega arith

-- the least of a number and those before it is theirs where they are some, and that is no greater
pub least_with :
    (n : ℕ) (old new : Summary) → n < 18446744073709551616 → new.least ≡ min old.least n → LeastWith n old new
least_with n old new fits is = record {
  below = omega (arith, is);
  others = λ some. omega (arith, is);
  which = elim (cases_lt old.least n) [
    | inl lt ↦ inr (some_less old.count old.least n old.least_of_none fits lt, omega (arith, is, lt))
    | inr le ↦ inl (omega (arith, is, le))
  ];
}

-- and the greatest
pub greatest_with : (n : ℕ) (old new : Summary) → new.greatest ≡ max old.greatest n → GreatestWith n old new
greatest_with n old new is = record {
  above = omega (arith, is);
  others = λ some. omega (arith, is);
  which = elim (cases_lt n old.greatest) [
    | inl lt ↦ inr (some_greater old.count old.greatest n old.greatest_of_none lt, omega (arith, is, lt))
    | inr le ↦ inl (omega (arith, is, le))
  ];
}

-- a number was counted too
pub one_number_more :
    {xs : List ℕ} (n : ℕ) {old : Summary} (new : Summary) → IsSummaryOf xs old → new.count ≡ old.count + 1 →
    LeastWith n old new → GreatestWith n old new → new.sum ≡ old.sum + n →
    binary_digits n < length old.by_digits →
    new.by_digits ≡ set old.by_digits (binary_digits n) (get_or old.by_digits (binary_digits n) 0 + 1) →
    IsSummaryOf (xs ++ n ∷ []) new
one_number_more {xs} n {old} new s count l g total lt digits = record {
  count = count ∙ ap (λ (k : ℕ). k + 1) s.count ∙ sym (length-append xs (n ∷ []));
  none_less = none_less_more xs n old.least new.least old.count s.count l.below l.others s.none_less;
  least = λ some. one_of_them xs n old.least new.least old.count s.count l.which s.least;
  none_greater = none_greater_more xs n old.greatest new.greatest old.count s.count g.above g.others s.none_greater;
  greatest = λ some. one_of_them xs n old.greatest new.greatest old.count s.count g.which s.greatest;
  sum = total ∙ ap (λ (k : ℕ). k + n) s.sum ∙ sym (sum_by_push (λ x. x) xs n);
  by_digits = λ k le. ap (λ (l : List ℕ). get_or l k 0) digits
      ∙ by_digits_more xs n old.by_digits k lt (s.by_digits k le);
}

-- no number
pub no_number : (s : Summary) → s.count ≡ 0 → s.sum ≡ 0 → s.by_digits ≡ replicate 65 0 → IsSummaryOf [] s
no_number s count total digits = record {
  count = count;
  none_less = All-nil (λ x. s.least ≤ x);
  least = λ some. absurd (omega arith);
  none_greater = All-nil (λ x. x ≤ s.greatest);
  greatest = λ some. absurd (omega arith);
  sum = total;
  by_digits = λ k le. ap (λ (l : List ℕ). get_or l k 0) digits ∙ get_or-replicate 65 k 0 0 (omega arith);
}

-- ---- what fits

-- where one more number of 64 bits can be counted, the sum with it has 128 bits
pub sum_fits :
    (xs : List ℕ) (n : ℕ) (s : Summary) → IsSummaryOf xs s → s.greatest < 18446744073709551616 →
    n < 18446744073709551616 → s.count + 1 < 18446744073709551616 →
    s.sum + n < 340282366920938463463374607431768211456
sum_fits xs n s is fits fits_n room =
    let each : All (λ x. x ≤ most_counted) xs =
    λ k d here. let a : get_or xs k d ≤ s.greatest = is.none_greater k d here in omega arith in
    omega (arith, sum_by-le (λ x. x) most_counted xs each, is.sum, is.count)

-- where one more number can be counted, one more with as many digits can
pub of_digits_fits :
    (xs : List ℕ) (n : ℕ) (s : Summary) → IsSummaryOf xs s → s.count + 1 < 18446744073709551616 →
    get_or s.by_digits (binary_digits n) 0 + 1 < 18446744073709551616
of_digits_fits xs n s is room =
    let least : binary_digits n ≤ 64 = omega arith in
    omega (
      arith,
      count_by-le-length (λ x. binary_digits x == binary_digits n) xs,
      is.by_digits (binary_digits n) least,
      is.count,
    )
