-- For private contracts: what a value of a line holds, whoever holds it.
use Rattle.std.specs.Prelude.{◌≡◌, ◌<◌, ℕ, List, map as list_map}
use Rattle.std.specs.List.{All}
use Rattle.trace_values.specs.parts.types.Flat.{flat_form}
use Rattle.trace_values.specs.Reading.{values_to_items, values_to_pairs}
use Rattle.trace_values.specs.Values.{Value, list, map}
use Rattle.trace_lines.specs.declared.value.Held.{Held}
use Rattle.trace_lines.specs.declared.value.Held.TheVariants.{Items, Pairs, Nothing}

-- each has less depth than this, which is some
abbrev pub AreBelow : {V : Type 0} → (V → ℕ) → List V → ℕ → Type 0
AreBelow depth vs n = (0 < n) × All (λ v. depth v < n) vs

-- the values that a value holds: those of a list, those of a map, or none; each of less depth than it
abbrev pub HoldsInside : {V : Type 0} → (V → Value) → (V → ℕ) → V → Held V → Type 0
HoldsInside value depth v (Items vs) =
    (value v ≡ list (values_to_items (list_map value vs.now))) × AreBelow depth vs.now (depth v)
HoldsInside value depth v (Pairs ps) =
    (value v ≡ map (values_to_pairs (list_map (λ p. (value p.0, value p.1)) ps.now)))
    × AreBelow (λ p. depth p.0) ps.now (depth v) × AreBelow (λ p. depth p.1) ps.now (depth v)
HoldsInside value depth v Nothing = flat_form (value v) ≡ value v
