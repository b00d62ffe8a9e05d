-- What is told of a trace that was fed in pieces.
use Rattle.std.proofs.Common.{◌≡◌, ℕ, List, [], ◌∷◌, Vec, String, sym, ◌∙◌}
use Rattle.std.specs.List.{AllByRecursion}
use Rattle.std.specs.declared.alloc.Global.{Global}
use Rattle.trace_recordings.specs.declared.findings.PartFinding.TheVariants.{Compared}
use Rattle.trace_recordings.specs.Findings.{ShowsPieces}
use Rattle.trace_recordings.specs.Pieces.{AreGivenAlike, AreGivenApart, piece_sizes}

-- nothing is told where all is given alike
pub shows_alike : (trace : List ℕ) (told : Vec (String Global) Global) → told.items ≡ []
    → AllByRecursion (AreGivenAlike trace) piece_sizes → ShowsPieces trace (Compared told)
shows_alike trace told none alike = (λ n. alike, λ some. absurd (some none))

-- something is told where not
pub shows_apart : (trace : List ℕ) (size : ℕ) (text : String Global) (told : Vec (String Global) Global)
    → told.items ≡ text ∷ [] → AreGivenApart trace size → ShowsPieces trace (Compared told)
shows_apart trace size text told one apart =
    (λ none. absurd (let wrong : text ∷ [] ≡ [] = sym one ∙ none in cc), λ some. (size, apart))
