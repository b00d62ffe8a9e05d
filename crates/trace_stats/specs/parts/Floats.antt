-- For private contracts: the least and the greatest of a float and of those that were counted.
use Rattle.std.specs.Prelude.{ℕ, ◌==◌, cond}
use Rattle.trace_stats.specs.Floats.{stands_before}
use Rattle.trace_stats.specs.declared.float.FloatSummary.{FloatSummary}

-- the least
abbrev pub least_with : ℕ → FloatSummary → ℕ
least_with n s = cond (s.count == 0) n (cond (stands_before n s.least) n s.least)

-- the greatest
abbrev pub greatest_with : ℕ → FloatSummary → ℕ
greatest_with n s = cond (s.count == 0) n (cond (stands_before s.greatest n) n s.greatest)
