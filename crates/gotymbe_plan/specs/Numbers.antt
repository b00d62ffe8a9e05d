-- Numbers as people read them.
use Rattle.std.specs.Prelude.{◌≡◌, ℕ, zero, suc, ◌+◌, ◌/◌, ◌%◌, ◌<◌, ◌≤◌, List, [], ◌∷◌, ◌++◌, codes}
use Rattle.std.specs.Fmt.{decimal}

-- the three decimal digits of a number below 1,000
abbrev pub three_digits : ℕ → List ℕ
three_digits n = (48 + n / 100) ∷ (48 + n / 10 % 10) ∷ (48 + n % 10) ∷ []

-- a number with so many commas: one before each three digits that end it
abbrev pub HasCommas : ℕ → ℕ → List ℕ → Type 0
HasCommas zero n text = (n < 1000) × (text ≡ decimal n)
HasCommas (suc k) n text = (1000 ≤ n)
    × ((front : List ℕ) × HasCommas k (n / 1000) front × (text ≡ front ++ codes "," ++ three_digits (n % 1000)))

-- the same, however many
abbrev pub IsGrouped : ℕ → List ℕ → Type 0
IsGrouped n text = (k : ℕ) × HasCommas k n text
