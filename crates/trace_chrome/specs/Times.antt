-- Times as viewers read them.
use Rattle.std.specs.Prelude.{ℕ, ◌/◌, ◌%◌, ◌-◌, List, ◌++◌, if◌then◌else◌, codes, nat_lt}
use Rattle.std.specs.Fmt.{decimal}

-- so many nanoseconds in microseconds, with three digits after the point
abbrev pub micros_text : ℕ → List ℕ
micros_text n =
    decimal (n / 1000) ++ (codes "." ++ (decimal (n / 100 % 10) ++ (decimal (n / 10 % 10) ++ decimal (n % 10))))

-- a time after another one, with a minus where it lies before that
abbrev pub time_text : ℕ → ℕ → List ℕ
time_text from at = if nat_lt at from then codes "-" ++ micros_text (from - at) else micros_text (at - from)
