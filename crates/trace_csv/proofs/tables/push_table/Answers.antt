use Rattle.std.proofs.Common.{◌≡◌, ◌++◌, length, rules, string_bytes}
use Rattle.std.specs.List.{flat_map, range_with_len}
use Rattle.trace_csv.specs.Tables.{column_text, table_head, table_end}
use Rattle.trace_csv.proofs.OneColumnMore.{one_column_more, table_ended}
use Rattle.trace_csv.proofs.tables.push_table.Goals as goal

pub fields-preserved : goal.fields-preserved
fields-preserved c =
    one_column_more (column_text c.args.fields.now) (string_bytes c.push_head.new.out) c.fields.place _ _
    c.fields.invariant c.in_ok-push_column.ensures

pub returns : goal.returns
returns c =
    let fields = c.args.fields.now in
    let all : string_bytes c.fields.out ≡ string_bytes c.push_head.new.out
    ++ flat_map (column_text fields) (range_with_len 0 (length fields)) = search rules in
    let columns = flat_map (column_text fields) (range_with_len 0 (length fields)) in
    table_ended c.push_end.result (string_bytes c.args.out.now) (table_head c.args.name.now) columns table_end _
    c.in_ok-push_head.ensures all c.push_end.ensures
