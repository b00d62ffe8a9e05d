use Rattle.std.proofs.Common.{take, map as list_map}
use Rattle.std.specs.Fmt.{decimal}
use Rattle.dial9_trace_format.specs.parts.Resolving.{as_pools}
use Rattle.trace_csv.proofs.CellsOfRow.{HasCells}
use Rattle.trace_csv.proofs.cells.put_row.Given as goal

abbrev pub invariant-fields : goal.invariant-fields
invariant-fields g l =
    HasCells (as_pools l.strings l.stacks) (decimal l.timestamp_ns)
    (list_map g.V.TraceValue.value (take l.value-index l.values)) l.row
