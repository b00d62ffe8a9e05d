-- What is read of a text that is given.
use Rattle.std.proofs.Common.{◌≡◌, ℕ, ◌<◌, ◌^◌, List, Option, Some, None, Result, Ok, Err, ap}
use Rattle.std.specs.Str.Parse.{IsNumeral, ParsesUnsigned, digits_value, without_leading_plus}
use Rattle.clap.specs.Matches.{ReadsOne}

-- a numeral in the range is read as its number
pub numeral_read :
    {E : Type 0} (gives : List ℕ → Result ℕ E → Type 0)
    → ((bs : List ℕ) (r : Result ℕ E) → gives bs r → ParsesUnsigned 64 10 bs r) →
    (t : List ℕ) (number : Option ℕ) → ReadsOne gives t number → IsNumeral 10 (without_leading_plus t) →
    digits_value 10 (without_leading_plus t) < 2 ^ 64 → number ≡ Some (digits_value 10 (without_leading_plus t))
numeral_read gives parses t (Some n) read numeral fits = ap Some (parses t (Ok n) read).1
numeral_read gives parses t None (e, given) numeral fits = absurd (parses t (Err e) given (numeral, fits))
