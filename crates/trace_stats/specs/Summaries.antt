-- What is kept of a list of numbers.
use Rattle.std.specs.Prelude.{◌≡◌, ◌<◌, ◌≤◌, ℕ, ◌-◌, ◌==◌, List, length, get_or, sum, All, Contains, count_by}
use Rattle.std.specs.Int.{w64, leading_zeros}
use Rattle.trace_stats.specs.declared.summary.Summary.{Summary}

-- how many binary digits a number of 64 bits has: 0 of 0, and n of those from 2 ^ (n - 1) up to 2 ^ n
abbrev pub binary_digits : ℕ → ℕ
binary_digits x = 64 - leading_zeros w64 x

-- how many can be counted
abbrev pub most_counted : ℕ
most_counted = 18446744073709551615

-- of a list: how many there are; the least and the greatest, where there are any; their sum; and how many there are
-- of each number of binary digits
pub record IsSummaryOf (xs : List ℕ) (s : Summary) : Type 0 where
  pub count : s.count ≡ length xs
  pub none_less : All (λ x. s.least ≤ x) xs
  pub least : 0 < length xs → Contains xs s.least
  pub none_greater : All (λ x. x ≤ s.greatest) xs
  pub greatest : 0 < length xs → Contains xs s.greatest
  pub sum : s.sum ≡ sum xs
  pub by_digits : (n : ℕ) → n ≤ 64 → get_or s.by_digits n 0 ≡ count_by (λ x. binary_digits x == n) xs
