-- What is kept of the values of a field.
use Rattle.std.specs.Prelude.{◌+◌, ℕ, ℤ, pos, negsuc, List, [], ◌∷◌, length}
use Rattle.std.specs.List.{flat_map}
use Rattle.trace_values.specs.Values.{Value, integer, number, float, text, bytes, stack}
use Rattle.trace_stats.specs.Summaries.{IsSummaryOf}
use Rattle.trace_stats.specs.FloatSummaries.{IsFloatSummaryOf}
use Rattle.trace_stats.specs.declared.field.FieldStats.{FieldStats}
use Rattle.trace_stats.specs.declared.measure.Measure.{Measure}
use Rattle.trace_stats.specs.declared.measure.Measure.TheVariants.{Natural, Negative, Float, Length, Nothing}

-- what is counted of an integer: itself, or how far it lies below 0
abbrev pub measure_of_integer : ℤ → Measure
measure_of_integer (pos n) = Natural n
measure_of_integer (negsuc n) = Negative (n + 1)

-- what is counted of a value: a number, the bits of a float, or how long a text, bytes or a stack is
abbrev pub measure_of : Value → Measure
measure_of (integer z) = measure_of_integer z
measure_of (number n) = Natural n
measure_of (float n) = Float n
measure_of (text s) = Length (length s)
measure_of (bytes s) = Length (length s)
measure_of (stack xs) = Length (length xs)
measure_of v = Nothing

-- the number that a measure has, where it is of this kind
abbrev pub natural_in : Measure → List ℕ
natural_in (Natural n) = n ∷ []
natural_in m = []

abbrev pub negative_in : Measure → List ℕ
negative_in (Negative n) = n ∷ []
negative_in m = []

abbrev pub float_in : Measure → List ℕ
float_in (Float n) = n ∷ []
float_in m = []

abbrev pub length_in : Measure → List ℕ
length_in (Length n) = n ∷ []
length_in m = []

-- the summaries of the values' numbers from 0 on, of how far the others lie below 0, of the floats and of the lengths
pub record IsFieldOf (vs : List Value) (f : FieldStats) : Type 0 where
  pub naturals : IsSummaryOf (flat_map (λ v. natural_in (measure_of v)) vs) f.naturals
  pub negatives : IsSummaryOf (flat_map (λ v. negative_in (measure_of v)) vs) f.negatives
  pub floats : IsFloatSummaryOf (flat_map (λ v. float_in (measure_of v)) vs) f.floats
  pub lengths : IsSummaryOf (flat_map (λ v. length_in (measure_of v)) vs) f.lengths
