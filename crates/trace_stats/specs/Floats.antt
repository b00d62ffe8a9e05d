-- Floats by their bits, and their order.
use Rattle.std.specs.Prelude.{ℕ, Bool, not, is_nan, from_bits}
use Rattle.std.specs.Float.{Float, binary64, total_cmp}
use Rattle.std.specs.Ordering.{is_lt}

-- the float of these bits
abbrev pub float_of : ℕ → Float
float_of n = from_bits binary64 n

-- it is a number, or infinite
abbrev pub is_a_number : ℕ → Bool
is_a_number n = not (is_nan (float_of n))

-- a float is less than another, or they are -0 and 0
abbrev pub stands_before : ℕ → ℕ → Bool
stands_before m n = is_lt (total_cmp (float_of m) (float_of n))
