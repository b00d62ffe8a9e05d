-- What a value of an event holds, whoever holds it.
use Rattle.std.specs.Prelude.{◌≡◌, ◌<◌, ℕ, List, map as list_map}
use Rattle.std.specs.List.{All}
use Rattle.trace_values.specs.Reading.{values_to_items, values_to_pairs}
use Rattle.trace_values.specs.Values.{Value, list, map}
use Rattle.trace_events.specs.declared.value.Held.{Held}
use Rattle.trace_events.specs.declared.value.Held.TheVariants.{Items, Pairs, Nothing}

-- each has less depth than this, which is some
abbrev pub AreLessDeep : {V : Type 0} → (V → ℕ) → List V → ℕ → Type 0
AreLessDeep depth vs n = (0 < n) × All (λ v. depth v < n) vs

-- it is no list and no map
abbrev pub HoldsNone : Value → Type 0
HoldsNone (list vs) = ⊥
HoldsNone (map ps) = ⊥
HoldsNone v = Unit {0}

-- the values that a value holds: those of a list, those of a map, or none; each of less depth than it
abbrev pub Holds : {V : Type 0} → (V → Value) → (V → ℕ) → V → Held V → Type 0
Holds value depth v (Items vs) =
    (value v ≡ list (values_to_items (list_map value vs.now))) × AreLessDeep depth vs.now (depth v)
Holds value depth v (Pairs ps) =
    (value v ≡ map (values_to_pairs (list_map (λ p. (value p.0, value p.1)) ps.now)))
    × AreLessDeep (λ p. depth p.0) ps.now (depth v) × AreLessDeep (λ p. depth p.1) ps.now (depth v)
Holds value depth v Nothing = HoldsNone (value v)
