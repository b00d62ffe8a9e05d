-- What is compared.
use Rattle.std.specs.Prelude.{ℕ, List, [], ◌∷◌, ◌++◌, codes}

-- lines with the line feed that ends the last, where there is one
abbrev pub ended : List ℕ → List ℕ
ended [] = []
ended (b ∷ bs) = (b ∷ bs) ++ codes "\n"
