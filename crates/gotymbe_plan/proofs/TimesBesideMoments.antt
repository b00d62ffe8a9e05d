-- Which times lie before and after moments.
use Rattle.std.proofs.Common.{◌≡◌, ℕ, ◌<◌, ◌≤◌, ◌^◌, ℤ, pos, ◌+ℤ◌, ◌-ℤ◌, ◌≤ℤ◌, ◌↔◌, Option, Some, None}
use Rattle.std.proofs.Common.{IfSome, IsSomeAnd, arith, ap, sym, subst, inl, inr, List, ◌++◌, codes, Result, Ok, Err}
use Rattle.std.proofs.Common.{OnOk, ◌∙◌, append_assoc, is_ok, if◌then◌else◌}
use Rattle.std.specs.Prelude.{unwrap_or}
use Rattle.std.proofs.lemmas.Int.{ints}
use Rattle.trace_lines.specs.Lines.{quoted}
use Rattle.gotymbe_plan.specs.declared.filter.Filter.{Filter}
use Rattle.gotymbe_plan.specs.declared.filter.Wanted.{Wanted}
use Rattle.gotymbe_plan.specs.declared.moments.Moment.{Moment}
use Rattle.gotymbe_plan.specs.declared.moments.Moment.TheVariants.{Time, Date}
use Rattle.gotymbe_plan.specs.declared.moments.Bound.{Bound}
use Rattle.gotymbe_plan.specs.declared.moments.Bound.TheVariants.{Early, At, Late}
use Rattle.gotymbe_plan.specs.Moments.{IsBoundOf, IsBoundBy, IsAfterBound, IsBeforeBound, IsBetween, IsFilterOf}
use Rattle.gotymbe_plan.specs.Moments.{IsNotBefore, IsNotAfter, IsDate, IsAnyDate, no_time_text}

-- the bound that an equation tells
bound_told : (bound other : Bound) → Some bound ≡ Some other → bound ≡ other
bound_told bound other is = ap (λ (o : Option Bound). unwrap_or o other) is

-- a time lies after the bound of a date where its own date does
after_date :
    (date zero : ℤ) (bound : Bound) (time : ℕ) → IsBoundOf (date -ℤ zero) bound → time < 2 ^ 64 →
    IsAfterBound bound time ↔ (date ≤ℤ (zero +ℤ pos time))
after_date date zero Early time lies small = (λ u. omega (arith, ints), λ le. tt)
after_date date zero (At n) time lies small =
    let is = lies.0 in (λ le. omega (arith, ints), λ le. omega (arith, ints))
after_date date zero Late time lies small = (λ none. absurd none, λ le. omega (arith, ints))

-- and before it
before_date :
    (date zero : ℤ) (bound : Bound) (time : ℕ) → IsBoundOf (date -ℤ zero) bound → time < 2 ^ 64 →
    IsBeforeBound bound time ↔ ((zero +ℤ pos time) ≤ℤ date)
before_date date zero Early time lies small = (λ none. absurd none, λ le. omega (arith, ints))
before_date date zero (At n) time lies small =
    let is = lies.0 in (λ le. omega (arith, ints), λ le. omega (arith, ints))
before_date date zero Late time lies small = (λ u. omega (arith, ints), λ le. tt)

-- a time lies after the bound of a moment where the moment is not after it
after_moment :
    (from : Option Moment) (zero : Option ℤ) (bound : Bound) (time : ℕ) → IsBoundBy from Early zero (Some bound) →
    time < 2 ^ 64 → IsAfterBound bound time ↔ IfSome from (λ m. IsNotBefore m zero time)
after_moment None zero bound time lies small =
    subst (λ (b : Bound). IsAfterBound b time ↔ IfSome {T = Moment} None (λ m. IsNotBefore m zero time))
    (sym (bound_told bound Early lies)) (λ u. tt, λ u. tt)
after_moment (Some (Time n)) zero bound time lies small =
    subst (λ (b : Bound). IsAfterBound b time ↔ (n ≤ time)) (sym (bound_told bound (At n) lies)) (λ le. le, λ le. le)
after_moment (Some (Date date)) (Some z) bound time lies small = after_date date z bound time lies small
after_moment (Some (Date date)) None bound time lies small = absurd cc

-- and before it
before_moment :
    (to : Option Moment) (zero : Option ℤ) (bound : Bound) (time : ℕ) → IsBoundBy to Late zero (Some bound) →
    time < 2 ^ 64 → IsBeforeBound bound time ↔ IfSome to (λ m. IsNotAfter m zero time)
before_moment None zero bound time lies small =
    subst (λ (b : Bound). IsBeforeBound b time ↔ IfSome {T = Moment} None (λ m. IsNotAfter m zero time))
    (sym (bound_told bound Late lies)) (λ u. tt, λ u. tt)
before_moment (Some (Time n)) zero bound time lies small =
    subst (λ (b : Bound). IsBeforeBound b time ↔ (time ≤ n)) (sym (bound_told bound (At n) lies)) (λ le. le, λ le. le)
before_moment (Some (Date date)) (Some z) bound time lies small = before_date date z bound time lies small
before_moment (Some (Date date)) None bound time lies small = absurd cc

-- the filter between the bounds of what is wanted has the times that are wanted
pub between_wanted :
    (wanted : Wanted) (zero : Option ℤ) (from to : Bound) (filter : Filter) →
    IsBoundBy wanted.from Early zero (Some from) → IsBoundBy wanted.to Late zero (Some to) →
    filter.names ≡ wanted.names → IsBetween from to filter → IsFilterOf wanted zero filter
between_wanted wanted zero from to filter from_lies to_lies named between = record {
  names = named;
  times = λ time small.
      let inside = between time small in
      let after = after_moment wanted.from zero from time from_lies small in
      let before = before_moment wanted.to zero to time to_lies small in (
        λ within. (after.0 (inside.0 within).0, before.0 (inside.0 within).1),
        λ wished. inside.1 (after.1 wished.0, before.1 wished.1),
      );
}

-- a moment whose bound is told is no date, where the clock is not known
not_dated :
    (moment : Option Moment) (end bound : Bound) → IsBoundBy moment end None (Some bound) →
    ¬ IsSomeAnd moment IsDate
not_dated None end bound lies dated = dated
not_dated (Some (Time n)) end bound lies dated = dated
not_dated (Some (Date date)) end bound lies dated = absurd cc

-- where both bounds are told and the clock is not known no date is asked for
pub no_date :
    (from to : Option Moment) (zero : Option ℤ) (first last : Bound) → IsBoundBy from Early zero (Some first) →
    IsBoundBy to Late zero (Some last) → zero ≡ None → ¬ IsAnyDate from to
no_date from to zero first last from_lies to_lies unknown dated =
    elim dated [
      | inl from_dated ↦ not_dated from Early first
          (subst (λ (z : Option ℤ). IsBoundBy from Early z (Some first)) unknown from_lies) from_dated
      | inr to_dated ↦ not_dated to Late last
          (subst (λ (z : Option ℤ). IsBoundBy to Late z (Some last)) unknown to_lies) to_dated
    ]

-- what is appended where that did not fail
pub appended_if_ok :
    {E : Type 0} (old new text : List ℕ) (r : Result (Unit {0}) E) →
    new ≡ (if is_ok r then old ++ text else old) → OnOk r (new ≡ old ++ text)
appended_if_ok old new text (Ok u) is = is
appended_if_ok old new text (Err e) is = tt

-- a text in quotes after what begins, and what ends it, say that it says no time
pub no_time_appended :
    {E : Type 0} (text old a b new : List ℕ) (r : Result (Unit {0}) E) → a ≡ old ++ codes "error: " →
    b ≡ a ++ quoted text → OnOk r (new ≡ b ++ codes " says no time for --") → OnOk r (new ≡ old ++ no_time_text text)
no_time_appended text old a b new (Err e) begins told is = is
no_time_appended text old a b new (Ok u) begins told is =
    let front = codes "error: " in
    let last = codes " says no time for --" in
    is ∙ ap (λ (x : List ℕ). x ++ last)
    (told ∙ ap (λ (x : List ℕ). x ++ quoted text) begins ∙ append_assoc old front (quoted text))
    ∙ append_assoc old (front ++ quoted text) last
