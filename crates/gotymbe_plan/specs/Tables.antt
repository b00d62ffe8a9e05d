-- When rows of tables are written that are held.
use Rattle.std.specs.Prelude.{◌≡◌, ℕ, ◌<◌, ◌≤◌}
use Rattle.gotymbe_plan.specs.declared.tables.Due.{Due}
use Rattle.gotymbe_plan.specs.declared.tables.Due.TheVariants.{Nothing, Table, All}

-- a table holds fewer bytes than these: 64 KiB
abbrev pub most_of_a_table : ℕ
most_of_a_table = 65536

-- and all tables fewer than these: 8 MiB
abbrev pub most_of_all : ℕ
most_of_all = 8388608

-- which rows are to be written, where a table holds so many bytes, and all tables so many
pub record IsDue (held held_by_all : ℕ) (due : Due) : Type 0 where
  pub table : most_of_a_table ≤ held → due ≡ Table
  pub all : held < most_of_a_table → most_of_all ≤ held_by_all → due ≡ All
  pub none : held < most_of_a_table → held_by_all < most_of_all → due ≡ Nothing
