-- The numbers of an event of twenty.
use Rattle.std.specs.Prelude.{ℕ, List, [], ◌∷◌}
use Rattle.trace_samples.specs.declared.events.wide.Wide.{Wide}

-- the numbers of an event of `Wide`
abbrev pub wide_numbers : Wide → List ℕ
wide_numbers e =
    e.v0 ∷ e.v1 ∷ e.v2 ∷ e.v3 ∷ e.v4 ∷ e.v5 ∷ e.v6 ∷ e.v7 ∷ e.v8 ∷ e.v9 ∷ e.v10 ∷ e.v11 ∷ e.v12 ∷ e.v13 ∷ e.v14
    ∷ e.v15
    ∷ e.v16 ∷ e.v17 ∷ e.v18
    ∷ e.v19 ∷ []
