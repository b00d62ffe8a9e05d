-- What a call asks for.
use Rattle.std.specs.Prelude.{◌≡◌, ◌⊎◌, List, ℕ, codes, Some, option_map}
use Rattle.gotymbe_words.specs.declared.asked.Asked.{Asked}

-- a text is the one that is given for an option with a time
abbrev pub IsGivenFor : Asked → List ℕ → List ℕ → Type 0
IsGivenFor asked option text =
    ((option ≡ codes "from") × (option_map (λ s. s.now) asked.from ≡ Some text))
    ⊎ ((option ≡ codes "to") × (option_map (λ s. s.now) asked.to ≡ Some text))
