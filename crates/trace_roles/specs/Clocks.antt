-- Which clock the times of a trace are of.
use Rattle.std.specs.Prelude.{◌≡◌, ◌<◌, ℕ, ℤ, Bool, List, Option, Some, Result, ◌==◌, length, FitsSigned}
use Rattle.std.specs.Int.{w64}
use Rattle.std.specs.List.{position_or_len, before_first, after_first}
use Rattle.std.specs.Str.Parse.{IsNumeral, without_leading_sign, signed_digits_value}

-- a space, by its byte
abbrev pub is_space : ℕ → Bool
is_space b = b == 32

-- a text that writes a whole number of 64 bits, with a sign or without
abbrev pub IsInteger : List ℕ → ℤ → Type 0
IsInteger text z = IsNumeral 10 (without_leading_sign text) × FitsSigned w64 (signed_digits_value 10 text)
    × (z ≡ signed_digits_value 10 text)

-- a text that says a clock: its name, up to the first space, and after that the nanoseconds at its zero
pub record IsClockText (text name : List ℕ) (zero : ℤ) : Type 0 where
  pub has_space : position_or_len is_space text < length text
  pub named : name ≡ before_first is_space text
  pub number : IsInteger (after_first is_space text) zero

-- what an annotation says, if there is one, is a clock
abbrev pub SaysClock : Option (List ℕ) → List ℕ → ℤ → Type 0
SaysClock note name zero = (text : List ℕ) × (note ≡ Some text) × IsClockText text name zero
