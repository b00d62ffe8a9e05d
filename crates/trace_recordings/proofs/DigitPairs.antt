-- Pairs of hexadecimal digits, one after another.
use Rattle.std.proofs.Common.{◌≡◌, ◌⊎◌, ℕ, List, [], ◌∷◌, ◌++◌, codes, subst, sym, append_assoc}
use Rattle.trace_recordings.specs.Scripts.{AreDigitsOf, IsPair}

-- the bytes so far, and then those of the rest
abbrev pub DigitsBefore : List ℕ → List ℕ → List ℕ → Type 0
DigitsBefore bytes rest line = (more : List ℕ) → AreDigitsOf more rest → AreDigitsOf (bytes ++ more) line

pub no_digits : (line : List ℕ) → DigitsBefore [] line line
no_digits line more h = h

-- one more pair, and what stands after it
one_pair :
    (byte : ℕ) (more pair rest after : List ℕ) → IsPair byte pair → (rest ≡ pair ++ after)
    ⊎ (rest ≡ pair ++ codes " " ++ after) → AreDigitsOf more after → AreDigitsOf (byte ∷ more) rest
one_pair byte [] pair rest after p parts h = absurd h
one_pair byte (next ∷ more) pair rest after p parts h = (pair, after, p, parts, h)

pub next_pair :
    (bytes line rest after pair gained : List ℕ) (byte : ℕ) → gained ≡ bytes ++ byte ∷ [] → IsPair byte pair →
    (rest ≡ pair ++ after) ⊎ (rest ≡ pair ++ codes " " ++ after) → DigitsBefore bytes rest line →
    DigitsBefore gained after line
next_pair bytes line rest after pair gained byte g p parts before more h =
    subst (λ (b : List ℕ). AreDigitsOf (b ++ more) line) (sym g)
    (subst (λ (b : List ℕ). AreDigitsOf b line) (sym (append_assoc bytes (byte ∷ []) more))
    (before (byte ∷ more) (one_pair byte more pair rest after p parts h)))
