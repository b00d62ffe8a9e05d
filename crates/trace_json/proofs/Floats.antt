-- What is written of a float.
use Rattle.std.proofs.Common.{◌≡◌, ℕ, Bool, true, false, List, [], ◌∷◌, ◌++◌, refl, sym, ap, subst, ◌∙◌, Result, Ok}
use Rattle.std.proofs.Common.{Err, OnOk}
use Rattle.std.specs.Bool.{MatchBool}
use Rattle.std.specs.Float.{float_is_finite}
use Rattle.std.specs.Float.Ieee.{Float, binary64}
use Rattle.std.specs.Float.Parse.{parse_float}
use Rattle.std.specs.Prelude.{Some, from_bits}
use Rattle.ryu.specs.Plain.{IsPlainNumber}
use Rattle.json.specs.Json.{number, string}
use Rattle.json.specs.Token.{Token}
use Rattle.json.specs.Token as token
use Rattle.json.specs.Tree.{json_tokens}
use Rattle.trace_json.specs.EventJson.{IsFloatJson, IsNumeralOf, special_text}
use Rattle.trace_json.specs.Put.{Stands}
use Rattle.trace_json.proofs.Tokens.{one_stands}

by_test : (b c : Bool) (P Q : Type 0) → b ≡ c → MatchBool c P Q → MatchBool b P Q
by_test b c P Q same h = subst (λ (x : Bool). MatchBool x P Q) (sym same) h

tested : (n : ℕ) (x : Float) (b c : Bool) → x ≡ from_bits binary64 n → b ≡ float_is_finite x → b ≡ c →
    float_is_finite (from_bits binary64 n) ≡ c
tested n x b c is test answer = ap float_is_finite (sym is) ∙ sym test ∙ answer

numeral :
    (n : ℕ) (x : Float) (b : Bool) (s : List ℕ) → x ≡ from_bits binary64 n → b ≡ float_is_finite x → b ≡ true →
    IsPlainNumber s → parse_float binary64 s ≡ Some x → IsFloatJson n (number s)
numeral n x b s is test finite plain read =
    by_test (float_is_finite (from_bits binary64 n)) true
    ((t : List ℕ) × IsNumeralOf n t × (number s ≡ number t)) (number s ≡ string (special_text n))
    (tested n x b true is test finite) (s, (plain, read ∙ ap Some is), refl)

-- a float that is finite was put as its shortest numeral
pub numeral_put :
    {E : Type 0} (r : Result (Unit {0}) E) (n : ℕ) (x : Float) (b : Bool) (old new : List Token) →
    x ≡ from_bits binary64 n → b ≡ float_is_finite x → b ≡ true →
    OnOk r ((s : List ℕ) × (new ≡ old ++ token.number s ∷ []) × IsPlainNumber s × (parse_float binary64 s ≡ Some x)) →
    OnOk r (Stands (IsFloatJson n) old new)
numeral_put (Ok u) n x b old new is test finite put = record {
  json = number put.0;
  is_so = numeral n x b put.0 is test finite put.2 put.3;
  tokens = put.1;
}
numeral_put (Err e) n x b old new is test finite put = tt

-- a float that is no number was put as a string
pub special_put :
    {E : Type 0} (r : Result (Unit {0}) E) (n : ℕ) (x : Float) (b : Bool) (old new : List Token) →
    x ≡ from_bits binary64 n → b ≡ float_is_finite x → b ≡ false →
    OnOk r (new ≡ old ++ json_tokens (string (special_text n))) → OnOk r (Stands (IsFloatJson n) old new)
special_put r n x b old new is test other put =
    one_stands r (IsFloatJson n) (string (special_text n)) old new
    (by_test (float_is_finite (from_bits binary64 n)) false
    ((t : List ℕ) × IsNumeralOf n t × (string (special_text n) ≡ number t))
    (string (special_text n) ≡ string (special_text n))
    (tested n x b false is test other) refl) put
