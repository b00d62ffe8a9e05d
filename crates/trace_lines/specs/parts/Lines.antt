-- For private contracts: the lines of a dump, without the line feed that ends each.
use Rattle.std.specs.Prelude.{ℕ, ◌==◌, if◌then◌else◌, List, [], codes}

-- what stands before the element of an index: a comma, but before the first nothing
abbrev pub comma_before : ℕ → List ℕ
comma_before index = if index == 0 then [] else codes ","
