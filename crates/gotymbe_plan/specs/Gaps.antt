-- What is told of the gaps between the pieces that were saved of a file.
use Rattle.std.specs.Prelude.{◌≡◌, ℕ, max, fold, List, [], ◌∷◌, ◌++◌}
use Rattle.trace_lines.specs.Dumps.{whole_status}
use Rattle.trace_fronts.specs.declared.pieces.Gap.{Gap}
use Rattle.gotymbe_plan.specs.declared.ending.Ending.{Ending}
use Rattle.gotymbe_plan.specs.declared.ending.Ending.TheVariants.{Whole, Stopped}
use Rattle.gotymbe_plan.specs.Endings.{stop_status}

-- a file ends by its last gap, and these are told before it; without a gap it is whole
abbrev pub EndsWithGap : List Gap → List Gap → Ending → Type 0
EndsWithGap [] before ending = (before ≡ []) × (ending ≡ Whole)
EndsWithGap (gap ∷ gaps) before ending =
    (last : Gap) × (gap ∷ gaps ≡ before ++ last ∷ []) × (ending ≡ Stopped last.stop)

-- the status of a file that ends by a gap
abbrev pub gap_status : Gap → ℕ
gap_status gap = stop_status gap.stop.cause

-- the greatest of these; the status of a whole file where there is none
abbrev pub greatest_status : List Gap → ℕ
greatest_status gaps = fold (λ status gap. max status (gap_status gap)) whole_status gaps
