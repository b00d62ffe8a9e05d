-- What is kept of a list of floats.
use Rattle.std.specs.Prelude.{◌≡◌, ◌<◌, ℕ, false, List, length, All, Contains, count_by, is_nan}
use Rattle.std.specs.List.{filter}
use Rattle.trace_stats.specs.Floats.{float_of, is_a_number, stands_before}
use Rattle.trace_stats.specs.declared.float.FloatSummary.{FloatSummary}

-- the floats that are numbers
abbrev pub numbers_in : List ℕ → List ℕ
numbers_in xs = filter is_a_number xs

-- of floats, each by its bits: how many are numbers; the first and the last of these, where there are any; and how many
-- are no numbers
pub record IsFloatSummaryOf (xs : List ℕ) (s : FloatSummary) : Type 0 where
  pub count : s.count ≡ length (numbers_in xs)
  pub none_before : All (λ x. stands_before x s.least ≡ false) (numbers_in xs)
  pub least : 0 < length (numbers_in xs) → Contains (numbers_in xs) s.least
  pub none_after : All (λ x. stands_before s.greatest x ≡ false) (numbers_in xs)
  pub greatest : 0 < length (numbers_in xs) → Contains (numbers_in xs) s.greatest
  pub not_numbers : s.not_numbers ≡ count_by (λ x. is_nan (float_of x)) xs
