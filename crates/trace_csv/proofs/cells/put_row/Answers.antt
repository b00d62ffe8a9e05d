use Rattle.std.specs.Fmt.{decimal}
use Rattle.dial9_trace_format.specs.parts.Resolving.{as_pools}
use Rattle.trace_csv.proofs.CellsOfRow.{next_cell, all_cells, first_cell}
use Rattle.trace_csv.proofs.cells.put_row.Goals as goal

pub fields-init : goal.fields-init
fields-init g c =
    first_cell (as_pools c.args.strings.now c.args.stacks.now) (decimal c.args.timestamp_ns) c.clear.ensures.fields
    c.in_ok-push_natural.ensures

pub push_cell-requires : goal.push_cell-requires
push_cell-requires g c = c.fields.invariant.whole

pub fields-preserved : goal.fields-preserved
fields-preserved g c =
    next_cell (as_pools c.args.strings.now c.args.stacks.now) (decimal c.args.timestamp_ns) g.V.TraceValue.value
    c.args.values.now
    c.fields.value-index c.fields-test.true c.value-item.is c.fields.invariant c.in_ok-push_cell.ensures
