-- One float more.
use Rattle.std.proofs.Common.{◌≡◌, ◌<◌, ◌≤◌, ◌⊎◌, inl, inr, ◌+◌, ◌==◌, ℕ, Bool, true, false, not, cond, T, List, []}
use Rattle.std.proofs.Common.{◌∷◌, ◌++◌, zero, suc, length, get_or, sym, ap, subst, refl, ◌∙◌, arith, length-append}
use Rattle.std.proofs.Common.{add-zero}
use Rattle.std.specs.List.{All, Contains, count_by}
use Rattle.std.specs.Prelude.{is_nan}
use Rattle.std.specs.Ordering.{is_lt}
use Rattle.std.specs.Float.{Float, NotNan, total_cmp, is_sign_negative}
use Rattle.std.specs.Float.Ieee.{lt}
use Rattle.std.specs.declared.cmp.Ordering.TheVariants.{Less, Equal, Greater}
use Rattle.std.proofs.lemmas.Bool.{false_from_ne_true, eqb-true, eqb-false}
use Rattle.std.proofs.lemmas.Float.{lt_irrefl, lt_trans, le_of_not-lt, lt_of_lt_of_le, lt_of_le_of_lt}
use Rattle.std.proofs.lemmas.List.Elements.{All-push, Contains-push, Contains-append_left, filter-append}
use Rattle.std.proofs.lemmas.List.Elements.{filter_passes}
use Rattle.std.proofs.lemmas.List.Sums.{sum_by_push, count_by-le-length, length-filter}
use Rattle.trace_stats.specs.Floats.{float_of, is_a_number, stands_before}
use Rattle.trace_stats.specs.FloatSummaries.{IsFloatSummaryOf, numbers_in}
use Rattle.trace_stats.specs.Summaries.{most_counted}
use Rattle.trace_stats.specs.parts.Floats.{least_with, greatest_with}
use Rattle.trace_stats.specs.declared.float.FloatSummary.{FloatSummary}

-- ---- the order of floats

-- what comes of both comparisons and of both signs
abbrev placed : Bool → Bool → Bool → Bool → Bool
placed less more s t = is_lt (cond less Less (cond more Greater (cond s (cond t Equal Less) (cond t Greater Equal))))

-- a float that stands before another is less, or they are equal and the first alone has a sign
placed_why :
    (less more s t : Bool) → placed less more s t ≡ true →
    (less ≡ true) ⊎ ((more ≡ false) × (s ≡ true) × (t ≡ false))
placed_why true more s t h = inl refl
placed_why false true s t h = absurd (cc)
placed_why false false true true h = absurd (cc)
placed_why false false true false h = inr (refl, refl, refl)
placed_why false false false true h = absurd (cc)
placed_why false false false false h = absurd (cc)

placed_less : (less more s t : Bool) → less ≡ true → placed less more s t ≡ true
placed_less true more s t h = refl
placed_less false more s t h = absurd (cc)

placed_even : (less more s t : Bool) → more ≡ false → s ≡ true → t ≡ false → placed less more s t ≡ true
placed_even true more s t h i k = refl
placed_even false true s t h i k = absurd (cc)
placed_even false false true true h i k = absurd (cc)
placed_even false false true false h i k = refl
placed_even false false false t h i k = absurd (cc)

is_so : (b : Bool) → b ≡ true → T b
is_so true h = tt
is_so false h = absurd (cc)

so_is : (b : Bool) → T b → b ≡ true
so_is true h = refl
so_is false h = absurd h

not_so : (b : Bool) → b ≡ false → T (not b)
not_so false h = tt
not_so true h = absurd (cc)

both_cannot : (b : Bool) → b ≡ true → b ≡ false → ⊥
both_cannot b h k = let e : true ≡ false = sym h ∙ k in absurd (cc)

-- what stands before something that stands before a third stands before that
before_next :
    (x y z : Float) → NotNan x → NotNan y → NotNan z → is_lt (total_cmp x y) ≡ true → is_lt (total_cmp y z) ≡ true →
    is_lt (total_cmp x z) ≡ true
before_next x y z p q r h k =
    elim (placed_why (lt x y) (lt y x) (is_sign_negative x) (is_sign_negative y) h) [
      | inl first ↦
          elim (placed_why (lt y z) (lt z y) (is_sign_negative y) (is_sign_negative z) k) [
            | inl second ↦ placed_less (lt x z) (lt z x) (is_sign_negative x) (is_sign_negative z)
                (so_is (lt x z) (lt_trans x y z (is_so (lt x y) first) (is_so (lt y z) second)))
            | inr second ↦ placed_less (lt x z) (lt z x) (is_sign_negative x) (is_sign_negative z)
                (so_is (lt x z) (lt_of_lt_of_le x y z (is_so (lt x y) first)
                (le_of_not-lt z y r q (not_so (lt z y) second.0))))
          ]
      | inr first ↦
          elim (placed_why (lt y z) (lt z y) (is_sign_negative y) (is_sign_negative z) k) [
            | inl second ↦ placed_less (lt x z) (lt z x) (is_sign_negative x) (is_sign_negative z)
                (so_is (lt x z) (lt_of_le_of_lt x y z (le_of_not-lt y x q p (not_so (lt y x) first.0))
                (is_so (lt y z) second)))
            | inr second ↦ absurd (both_cannot (is_sign_negative y) second.1 first.2)
          ]
    ]

placed_alike : (less s : Bool) → less ≡ false → placed less less s s ≡ false
placed_alike false true h = refl
placed_alike false false h = refl
placed_alike true s h = absurd (cc)

-- a float does not stand before itself
pub not_before_itself : (n : ℕ) → stands_before n n ≡ false
not_before_itself n =
    let x = float_of n in
    placed_alike (lt x x) (is_sign_negative x)
    (false_from_ne_true (lt x x) (λ e. lt_irrefl x (is_so (lt x x) e)))

number_is : (n : ℕ) → is_a_number n ≡ true → NotNan (float_of n)
number_is n h = is_so (is_a_number n) h

pub before_before :
    (l m n : ℕ) → is_a_number l ≡ true → is_a_number m ≡ true → is_a_number n ≡ true → stands_before l m ≡ true →
    stands_before m n ≡ true → stands_before l n ≡ true
before_before l m n p q r h k =
    before_next (float_of l) (float_of m) (float_of n) (number_is l p) (number_is m q) (number_is n r) h k

-- ---- one more of those that are numbers

-- a test by which a float takes the place of the one that was kept
record Chooses (test : ℕ → ℕ → Bool) : Type 0 where
  pub itself : (n : ℕ) → test n n ≡ false
  pub next : (l m n : ℕ) → is_a_number l ≡ true → is_a_number m ≡ true → is_a_number n ≡ true → test l m ≡ true →
      test m n ≡ true → test l n ≡ true

before_chooses : Chooses stands_before
before_chooses = record { itself = not_before_itself; next = before_before }

after_chooses : Chooses (λ m n. stands_before n m)
after_chooses = record {
  itself = not_before_itself;
  next = λ l m n p q r h k. before_before n m l r q p k h;
}

-- floats of which one was kept, and one more
record OneMore (xs : List ℕ) (n old many : ℕ) : Type 0 where
  pub count : many ≡ length xs
  pub numbers : All (λ x. is_a_number x ≡ true) xs
  pub new_is : is_a_number n ≡ true
  pub old_is : is_a_number old ≡ true

-- none takes the place of the one that is kept then
none_takes :
    {test : ℕ → ℕ → Bool} (c : Chooses test) {xs : List ℕ} {n old count : ℕ} → OneMore xs n old count →
    All (λ x. test x old ≡ false) xs → (none takes : Bool) → (count == 0) ≡ none → test n old ≡ takes →
    All (λ x. test x (cond none n (cond takes n old)) ≡ false) (xs ++ n ∷ [])
none_takes {test} c {xs} {n} {old} {count} one all true takes empty takes_is =
    let zero : count ≡ 0 = eqb-true count 0 empty in
    All-push (λ x. test x n ≡ false) xs n (λ k d here. absurd (omega (arith, zero, one.count, here))) (c.itself n)
none_takes {test} c {xs} {n} {old} {count} one all false true empty takes_is =
    All-push (λ x. test x n ≡ false) xs n
    (λ k d here.
    let x = get_or xs k d in
    false_from_ne_true (test x n)
    (λ e. both_cannot (test x old)
    (c.next x n old (one.numbers k d here) one.new_is one.old_is e takes_is) (all k d here))) (c.itself n)
none_takes {test} c {xs} {n} {old} {count} one all false false empty takes_is =
    All-push (λ x. test x old ≡ false) xs n all takes_is

-- it is one of them
is_of_them :
    (xs : List ℕ) (n old count : ℕ) → count ≡ length xs → (0 < length xs → Contains xs old) → (none takes : Bool) →
    (count == 0) ≡ none → Contains (xs ++ n ∷ []) (cond none n (cond takes n old))
is_of_them xs n old count is has true takes empty = Contains-push xs n
is_of_them xs n old count is has false true empty = Contains-push xs n
is_of_them xs n old count is has false false empty =
    let some : (count ≡ 0) → ⊥ = eqb-false count 0 empty in
    Contains-append_left xs (n ∷ []) old (has (above_zero (length xs) (λ e. some (is ∙ e))))
  where
    above_zero : (k : ℕ) → (k ≡ 0 → ⊥) → 0 < k
    above_zero zero other = absurd (other refl)
    above_zero (suc k) other = omega arith

-- ---- one more of all

more_numbers : (xs : List ℕ) (n : ℕ) → is_a_number n ≡ true → numbers_in (xs ++ n ∷ []) ≡ numbers_in xs ++ n ∷ []
more_numbers xs n is =
    filter-append is_a_number xs (n ∷ []) ∙ ap (λ (b : Bool). numbers_in xs ++ cond b (n ∷ []) []) is

abbrev others_in : List ℕ → ℕ
others_in xs = count_by (λ x. is_nan (float_of x)) xs

more_others : (xs : List ℕ) (n : ℕ) (b : Bool) → is_nan (float_of n) ≡ b →
    others_in (xs ++ n ∷ []) ≡ others_in xs + cond b 1 0
more_others xs n b is =
    sum_by_push (λ x. cond (is_nan (float_of x)) 1 0) xs n
    ∙ ap (λ (c : Bool). others_in xs + cond c 1 0) is

not_true : (b : Bool) → not b ≡ true → b ≡ false
not_true false h = refl
not_true true h = absurd (cc)

-- the parts of what is kept after one more number
pub record NumberMore (n : ℕ) (old new : FloatSummary) : Type 0 where
  pub is : is_a_number n ≡ true
  pub count : new.count ≡ old.count + 1
  pub least : new.least ≡ least_with n old
  pub greatest : new.greatest ≡ greatest_with n old
  pub others : new.not_numbers ≡ old.not_numbers

-- a number was counted too
pub number_more :
    (xs : List ℕ) (n : ℕ) (old new : FloatSummary) → NumberMore n old new → IsFloatSummaryOf xs old →
    IsFloatSummaryOf (xs ++ n ∷ []) new
number_more xs n old new m s =
    let ys = numbers_in xs in
    let same : numbers_in (xs ++ n ∷ []) ≡ ys ++ n ∷ [] = more_numbers xs n m.is in
    let numbers : All (λ x. is_a_number x ≡ true) ys = filter_passes is_a_number xs in
    let to_least : OneMore ys n old.least old.count =
    record { count = s.count; numbers = numbers; new_is = m.is; old_is = old.least_is_number } in
    let to_greatest : OneMore ys n old.greatest old.count =
    record { count = s.count; numbers = numbers; new_is = m.is; old_is = old.greatest_is_number } in
    record {
      count = m.count ∙ ap (λ (k : ℕ). k + 1) s.count ∙ sym (length-append ys (n ∷ [])) ∙ ap length (sym same);
      none_before = subst (λ (l : List ℕ). All (λ x. stands_before x new.least ≡ false) l) (sym same)
          (subst (λ (k : ℕ). All (λ x. stands_before x k ≡ false) (ys ++ n ∷ [])) (sym m.least)
          (none_takes before_chooses to_least s.none_before (old.count == 0) (stands_before n old.least) refl refl));
      least = λ some. subst (λ (l : List ℕ). Contains l new.least) (sym same)
          (subst (Contains (ys ++ n ∷ [])) (sym m.least)
          (is_of_them ys n old.least old.count s.count s.least (old.count == 0) (stands_before n old.least) refl));
      none_after = subst (λ (l : List ℕ). All (λ x. stands_before new.greatest x ≡ false) l) (sym same)
          (subst (λ (k : ℕ). All (λ x. stands_before k x ≡ false) (ys ++ n ∷ [])) (sym m.greatest)
          (none_takes after_chooses to_greatest s.none_after (old.count == 0) (stands_before old.greatest n) refl
          refl));
      greatest = λ some. subst (λ (l : List ℕ). Contains l new.greatest) (sym same)
          (subst (Contains (ys ++ n ∷ [])) (sym m.greatest)
          (is_of_them ys n old.greatest old.count s.count s.greatest (old.count == 0) (stands_before old.greatest n)
          refl));
      not_numbers = m.others ∙ s.not_numbers ∙ sym (add-zero (others_in xs))
          ∙ sym (more_others xs n false (not_true (is_nan (float_of n)) m.is));
    }

-- ---- what fits

-- where no more numbers can be counted, there are as many floats
pub numbers_full :
    (xs : List ℕ) (s : FloatSummary) → most_counted ≤ s.count → IsFloatSummaryOf xs s → most_counted ≤ length xs
numbers_full xs s many is =
    omega (arith, many, is.count, length-filter is_a_number xs, count_by-le-length is_a_number xs)
