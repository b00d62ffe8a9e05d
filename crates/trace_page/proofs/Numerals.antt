-- A number with a minus is a numeral of JSON.
use Rattle.std.proofs.Common.{◌∷◌, ℕ, zero, suc, ◌<◌, ◌^◌, List, refl, sym, subst, arith, negsuc}
use Rattle.std.proofs.lemmas.Fmt.{decimal_digit}
use Rattle.std.specs.Fmt.{decimal}
use Rattle.json.specs.Print.{IsNumber}
use Rattle.json.specs.Word.{after_number}
use Rattle.json.proofs.Printed.Decimals.{IsNumber-signed_decimal}

zero_numeral : IsNumber (45 ∷ decimal 0)
unfolding after_number
zero_numeral = subst (λ (ds : List ℕ). IsNumber (45 ∷ ds)) (sym (decimal_digit 0 (omega arith))) refl

pub is_numeral : (n : ℕ) → n < 2 ^ 63 → IsNumber (45 ∷ decimal n)
is_numeral zero small = zero_numeral
is_numeral (suc n) small = IsNumber-signed_decimal (negsuc n) (omega arith)
