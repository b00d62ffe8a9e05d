use Rattle.std.proofs.Common.{◌≡◌, ◌++◌, string_bytes}
use Rattle.std.specs.List.{flat_map, range_with_len}
use Rattle.trace_csv.specs.Tables.{column_text}
use Rattle.trace_csv.proofs.tables.push_table.Given as goal

abbrev pub invariant-fields : goal.invariant-fields
invariant-fields l =
    string_bytes l.out ≡ string_bytes l.initial.out ++ flat_map (column_text l.fields) (range_with_len 0 l.place)
