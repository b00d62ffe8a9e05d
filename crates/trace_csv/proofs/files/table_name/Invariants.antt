use Rattle.std.proofs.Common.{◌++◌, ◌∷◌, [], string_bytes}
use Rattle.std.specs.Fmt.{decimal}
use Rattle.trace_csv.specs.Files.{dash}
use Rattle.trace_csv.proofs.KeptOfSchemaName.{HasKept}
use Rattle.trace_csv.proofs.files.table_name.Given as goal

abbrev pub invariant-bytes : goal.invariant-bytes
invariant-bytes l =
    HasKept (decimal l.fn.number ++ dash ∷ []) l.name l.byte-index l.left (string_bytes l.text)
