-- Parts of a whole, in hundredths.
use Rattle.std.proofs.Common.{ℕ, ◌*◌, ◌/◌, ◌<◌, arith}
use Rattle.std.proofs.Math.Nat.{div-lt_iff_lt-mul}

-- of a part below the whole there are fewer than 100
pub percent_small : (done of : ℕ) → done < of → done * 100 / of < 100
percent_small done of below =
    (div-lt_iff_lt-mul {k = of} {x = done * 100} {y = 100} (omega (arith, below))).1 (omega (arith, below))
