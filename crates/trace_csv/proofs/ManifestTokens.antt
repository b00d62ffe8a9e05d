-- The tokens of what is told of a table.
use Rattle.std.proofs.Common.{◌≡◌, List, [], ◌∷◌, ◌++◌, append_assoc, Result, Ok, Err, OnOk}
use Rattle.json.specs.Token.{Token}

-- four tokens, put one after another
pub record FourPut (a b c d : Token) (old four : List Token) : Type 0 where
  pub one : List Token
  pub two : List Token
  pub three : List Token
  pub first : one ≡ old ++ a ∷ []
  pub second : two ≡ one ++ b ∷ []
  pub third : three ≡ two ++ c ∷ []
  pub fourth : four ≡ three ++ d ∷ []

-- three tokens, put one after another
pub record ThreePut (a b c : Token) (old three : List Token) : Type 0 where
  pub one : List Token
  pub two : List Token
  pub first : one ≡ old ++ a ∷ []
  pub second : two ≡ one ++ b ∷ []
  pub third : three ≡ two ++ c ∷ []

-- eight tokens were put
pub put_eight :
    {E : Type 0} (r : Result (Unit {0}) E) {a b c d x y z : Token} (w : Token) {old four seven : List Token}
    (new : List Token) → FourPut a b c d old four → ThreePut x y z four seven → OnOk r (new ≡ seven ++ w ∷ []) →
    OnOk r (new ≡ old ++ a ∷ b ∷ c ∷ d ∷ x ∷ y ∷ z ∷ w ∷ [])
put_eight (Ok u) w new p q e =
    rw (e, q.third, q.second, q.first, p.fourth, p.third, p.second, p.first) (simp append_assoc)
put_eight (Err t) w new p q e = tt
