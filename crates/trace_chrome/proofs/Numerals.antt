-- Times are numbers of JSON.
use Rattle.std.proofs.Common.{◌≡◌, ℕ, zero, suc, ◌/◌, ◌%◌, ◌-◌, ◌^◌, ◌<◌, Bool, true, false, if◌then◌else◌, List, []}
use Rattle.std.proofs.Common.{◌∷◌, ◌++◌}
use Rattle.std.proofs.Common.{◌+◌, length, get_or, codes, decimal, nat_lt, refl, sym, ap, arith, append-nil}
use Rattle.std.proofs.lemmas.Fmt.{decimal_is_IsNumeral, decimal_digit, decimal_nonempty, first_decimal}
use Rattle.std.proofs.lemmas.Bool.{true≢false}
use Rattle.std.specs.Str.Parse.{AllDigits}
use Rattle.fast_float.specs.Text.{Parts, text_of, IsWellFormed}
use Rattle.ryu.specs.Plain.{IsPlain}
use Rattle.json.proofs.Printed.Floats.{IsNumber-plain}
use Rattle.json.specs.Print.{IsNumber}
use Rattle.trace_chrome.specs.Times.{micros_text, time_text}

AllDigits-append : (xs ys : List ℕ) → AllDigits 10 xs → AllDigits 10 ys → AllDigits 10 (xs ++ ys)
AllDigits-append [] ys h k = k
AllDigits-append (x ∷ xs) ys h k = (h.0, AllDigits-append xs ys h.1 k)

digits_of : (n : ℕ) → n < 2 ^ 64 → AllDigits 10 (decimal n)
digits_of n h = (decimal_is_IsNumeral n h).0.1

lead : (m : ℕ) → m < 2 ^ 64 → get_or (decimal m) 0 0 ≡ 48 → length (decimal m) ≡ 1
lead zero h e = ap length (decimal_digit 0 (omega arith))
lead (suc m) h e = absurd (omega (arith, first_decimal (suc m) (omega arith) h))

abbrev fraction_of : ℕ → List ℕ
fraction_of n = decimal (n / 100 % 10) ++ (decimal (n / 10 % 10) ++ decimal (n % 10))

abbrev parts_of : ℕ → Parts
parts_of n = record {
  whole = decimal (n / 1000);
  point = true;
  fraction = fraction_of n;
  exponent_negative = false;
  exponent = [];
  len = length (decimal (n / 1000) ++ ((46 ∷ fraction_of n) ++ []));
}

fraction_digits : (n : ℕ) → AllDigits 10 (fraction_of n)
fraction_digits n =
    AllDigits-append (decimal (n / 100 % 10)) _ (digits_of (n / 100 % 10) (omega arith))
    (AllDigits-append (decimal (n / 10 % 10)) _ (digits_of (n / 10 % 10) (omega arith))
    (digits_of (n % 10) (omega arith)))

some_digit : (a b : ℕ) (rest : List ℕ) → a < 10 → 0 < length (decimal a ++ rest)
some_digit a b rest lt =
    let one : decimal a ≡ (48 + a) ∷ [] = decimal_digit a lt in rw one (omega arith)

plain_parts : (n : ℕ) → n < 2 ^ 64 → IsPlain (parts_of n)
plain_parts n h = record {
  well_formed = record {
    whole_digits = digits_of (n / 1000) (omega arith);
    fraction_digits = fraction_digits n;
    exponent_digits = tt;
    no_point = λ e. absurd (true≢false e);
    no_exponent = λ e. refl;
    len_is = refl;
  };
  whole = decimal_nonempty (n / 1000) (omega arith);
  no_leading_zero = lead (n / 1000) (omega arith);
  fraction = λ e. some_digit (n / 100 % 10) 0 _ (omega arith);
  marked = λ e. absurd (true≢false e);
}

text_is : (n : ℕ) → micros_text n ≡ text_of (parts_of n)
text_is n = ap (λ (l : List ℕ). decimal (n / 1000) ++ l) (sym (append-nil (46 ∷ fraction_of n)))

pub IsNumber-micros : (n : ℕ) → n < 2 ^ 64 → IsNumber (micros_text n)
IsNumber-micros n h = IsNumber-plain (micros_text n) (false, parts_of n, text_is n, plain_parts n h)

IsNumber-minus : (n : ℕ) → n < 2 ^ 64 → IsNumber (codes "-" ++ micros_text n)
IsNumber-minus n h =
    IsNumber-plain (codes "-" ++ micros_text n)
    (true, parts_of n, ap (λ (l : List ℕ). 45 ∷ l) (text_is n), plain_parts n h)

by_test :
    (b : Bool) (from at : ℕ) → from < 2 ^ 64 → at < 2 ^ 64 →
    IsNumber (if b then codes "-" ++ micros_text (from - at) else micros_text (at - from))
by_test true from at h k = IsNumber-minus (from - at) (omega arith)
by_test false from at h k = IsNumber-micros (at - from) (omega arith)

pub IsNumber-time : (from at : ℕ) → from < 2 ^ 64 → at < 2 ^ 64 → IsNumber (time_text from at)
IsNumber-time from at h k = by_test (nat_lt at from) from at h k
