use Rattle.std.proofs.Common.{◌≡◌, ◌++◌, ◌∷◌, [], rules}
use Rattle.csv.specs.Records.{fields_of, partial_of}
use Rattle.trace_csv.specs.Columns.{column_name, time_name}
use Rattle.trace_csv.proofs.OneColumnMore.{one_name_more}
use Rattle.trace_csv.proofs.columns.put_columns.Goals as goal

pub fields-preserved : goal.fields-preserved
fields-preserved c =
    let old = c.fields.row in
    let new = c.push_field-in-fields.new.self in
    let text = c.as_bytes-in-fields.result.now in
    let put : fields_of new ≡ fields_of old ++ (partial_of old ++ text) ∷ [] = search rules in
    record {
      names = one_name_more (column_name c.args.fields.now) time_name c.fields.place _ _ c.fields.invariant.names
          c.fields.invariant.whole (search rules) put;
      whole = search rules;
    }
