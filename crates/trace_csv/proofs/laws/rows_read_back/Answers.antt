use Rattle.std.proofs.Common.{refl}
use Rattle.trace_csv.specs.Columns.{column_names}
use Rattle.trace_csv.proofs.RowsReadBack.{table_read_back}
use Rattle.trace_csv.proofs.laws.rows_read_back.Goals as goal

pub returns : goal.returns
returns c fields events rows are = table_read_back (column_names fields) events rows refl are
