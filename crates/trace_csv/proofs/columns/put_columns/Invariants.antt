use Rattle.std.proofs.Common.{◌≡◌, ◌∷◌, [], map}
use Rattle.std.specs.List.{range_with_len}
use Rattle.csv.specs.Records.{fields_of, partial_of}
use Rattle.trace_csv.specs.Columns.{column_name, time_name}
use Rattle.trace_csv.proofs.columns.put_columns.Given as goal

abbrev pub invariant-fields : goal.invariant-fields
invariant-fields l = record {
  names : fields_of l.row ≡ time_name ∷ map (column_name l.fields) (range_with_len 0 l.place);
  whole : partial_of l.row ≡ [];
}
