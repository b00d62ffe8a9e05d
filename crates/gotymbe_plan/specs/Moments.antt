-- Times that are asked for.
use Rattle.std.specs.Prelude.{◌≡◌, ◌⊎◌, ◌↔◌, ℕ, ◌<◌, ◌≤◌, ◌^◌, ℤ, pos, ◌-◌, ◌+ℤ◌, ◌-ℤ◌, ◌<ℤ◌, ◌≤ℤ◌, int_lt}
use Rattle.std.specs.Prelude.{if◌then◌else◌, List, ◌++◌, codes, Option, Some, None, IfSome, IsSome, IsSomeAnd}
use Rattle.std.specs.Prelude.{Result, Ok, Err}
use Rattle.std.specs.Str.Parse.{IsNumeral, digits_value, without_leading_plus}
use Rattle.jiff.specs.Words.{parse_timestamp, Error}
use Rattle.trace_lines.specs.Lines.{quoted}
use Rattle.gotymbe_plan.specs.declared.moments.Moment.{Moment}
use Rattle.gotymbe_plan.specs.declared.moments.Moment.TheVariants.{Time, Date}
use Rattle.gotymbe_plan.specs.declared.moments.Bound.{Bound}
use Rattle.gotymbe_plan.specs.declared.moments.Bound.TheVariants.{Early, At, Late}
use Rattle.gotymbe_plan.specs.declared.filter.Filter.{Filter}
use Rattle.gotymbe_plan.specs.declared.filter.Wanted.{Wanted}
use Rattle.gotymbe_plan.specs.Filters.{IsInRange}

-- a text is a decimal number of 64 bits
abbrev pub IsTimeText : List ℕ → Type 0
IsTimeText text =
    IsNumeral 10 (without_leading_plus text) × (digits_value 10 (without_leading_plus text) < 2 ^ 64)

-- the date that is read, if one is
abbrev pub date_by : Result ℤ Error → Option Moment
date_by (Ok ns) = Some (Date ns)
date_by (Err e) = None

-- the date that a text is read as, in nanoseconds since the beginning of 1970
abbrev pub date_said : List ℕ → Option Moment
date_said text = date_by (parse_timestamp text)

-- the time that a text says: by its number, else by its date
pub record SaysMoment (text : List ℕ) (moment : Option Moment) : Type 0 where
  pub time : IsTimeText text → moment ≡ Some (Time (digits_value 10 (without_leading_plus text)))
  pub date : ¬ IsTimeText text → moment ≡ date_said text

-- the time that a text says, where one is given
abbrev pub IsMomentGiven : Option (List ℕ) → Option Moment → Type 0
IsMomentGiven (Some text) moment = SaysMoment text moment × IsSome moment
IsMomentGiven None moment = moment ≡ None

-- a moment is a date
abbrev pub IsDate : Moment → Type 0
IsDate (Time time) = ⊥
IsDate (Date date) = Unit {0}

-- one of two times that may be asked for is a date
abbrev pub IsAnyDate : Option Moment → Option Moment → Type 0
IsAnyDate from to = IsSomeAnd from IsDate ⊎ IsSomeAnd to IsDate

-- where so many nanoseconds lie among the times of 64 bits
abbrev pub IsBoundOf : ℤ → Bound → Type 0
IsBoundOf time Early = time <ℤ pos 0
IsBoundOf time (At n) = (time ≡ pos n) × (n < 2 ^ 64)
IsBoundOf time Late = pos (2 ^ 64) ≤ℤ time

-- before or after all of them
abbrev pub far_end : ℤ → Bound
far_end time = if int_lt time (pos 0) then Early else Late

-- where a moment lies among the times of a trace: a date by its nanoseconds since 1970 minus those at the clock's zero
abbrev pub LiesAt : Moment → Option ℤ → Option Bound → Type 0
LiesAt (Time time) zero bound = bound ≡ Some (At time)
LiesAt (Date date) (Some zero) bound = IsSomeAnd bound (IsBoundOf (date -ℤ zero))
LiesAt (Date date) None bound = bound ≡ None

-- that a text says no time: it stands in quotes
abbrev pub no_time_text : List ℕ → List ℕ
no_time_text text = codes "error: " ++ quoted text ++ codes " says no time for --"

-- what an option takes
abbrev pub wished_text : List ℕ → List ℕ
wished_text option = option ++ codes ": a number of nanoseconds, or a date as 2025-11-28T12:00:00Z\n"

-- what is told of a text that says no time
abbrev pub no_moment_text : List ℕ → List ℕ → List ℕ
no_moment_text option text = no_time_text text ++ wished_text option

-- ---- which events are asked for

-- the place of a time that may be asked for; where none is, an end
abbrev pub IsBoundBy : Option Moment → Bound → Option ℤ → Option Bound → Type 0
IsBoundBy (Some moment) end zero bound = LiesAt moment zero bound
IsBoundBy None end zero bound = bound ≡ Some end

-- the first time that does not lie before a bound
abbrev pub first_at : Bound → Option ℕ
first_at Early = Some 0
first_at (At n) = Some n
first_at Late = None

-- the last time that does not lie after a bound
abbrev pub last_at : Bound → Option ℕ
last_at Early = None
last_at (At n) = Some n
last_at Late = Some (2 ^ 64 - 1)

-- a time does not lie before a bound
abbrev pub IsAfterBound : Bound → ℕ → Type 0
IsAfterBound Early time = Unit {0}
IsAfterBound (At n) time = n ≤ time
IsAfterBound Late time = ⊥

-- or not after it
abbrev pub IsBeforeBound : Bound → ℕ → Type 0
IsBeforeBound Early time = ⊥
IsBeforeBound (At n) time = time ≤ n
IsBeforeBound Late time = Unit {0}

-- the times that are asked for lie between two bounds
abbrev pub IsBetween : Bound → Bound → Filter → Type 0
IsBetween from to filter = (time : ℕ) → time < 2 ^ 64 →
    IsInRange filter time ↔ IsAfterBound from time × IsBeforeBound to time

-- a time of a trace is not before a moment; its date is the clock's zero and the time
abbrev pub IsNotBefore : Moment → Option ℤ → ℕ → Type 0
IsNotBefore (Time n) zero time = n ≤ time
IsNotBefore (Date date) (Some zero) time = date ≤ℤ (zero +ℤ pos time)
IsNotBefore (Date date) None time = ⊥

-- or not after it
abbrev pub IsNotAfter : Moment → Option ℤ → ℕ → Type 0
IsNotAfter (Time n) zero time = time ≤ n
IsNotAfter (Date date) (Some zero) time = (zero +ℤ pos time) ≤ℤ date
IsNotAfter (Date date) None time = ⊥

-- the events that are asked for, in a trace whose clock stood so at its zero
pub record IsFilterOf (wanted : Wanted) (zero : Option ℤ) (filter : Filter) : Type 0 where
  pub names : filter.names ≡ wanted.names
  pub times : (time : ℕ) → time < 2 ^ 64 →
      IsInRange filter time
      ↔ IfSome wanted.from (λ m. IsNotBefore m zero time) × IfSome wanted.to (λ m. IsNotAfter m zero time)
