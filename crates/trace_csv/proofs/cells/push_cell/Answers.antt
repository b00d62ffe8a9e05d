use Rattle.std.proofs.Common.{◌≡◌, [], refl, rules}
use Rattle.std.specs.Prelude.{Some}
use Rattle.std.specs.FinMap as finmap
use Rattle.dial9_trace_format.specs.parts.Resolving.{as_pools}
use Rattle.trace_csv.specs.Cells.{IsCellOf}
use Rattle.trace_csv.proofs.CellsOfRow.{Pushed, cell_pushed, text_cell, pooled_cell, absent_cell}
use Rattle.trace_csv.proofs.CellsOfRow.{natural_pushed}
use Rattle.trace_csv.proofs.cells.push_cell.Goals as goal

pub returns-in-Text : goal.returns-in-Text
returns-in-Text g c =
    let pools = as_pools c.args.strings.now c.args.stacks.now in
    let v = g.V.TraceValue.value c.args.value.now in
    let pushed : Pushed c.push_field.result c.args.row.now c.push_field.new.self c.as_bytes.result.now =
    record { fields = c.push_field.ensures.fields; partial = c.push_field.ensures.partial } in
    cell_pushed c.push_field.result (IsCellOf pools v) c.in-Text.text.now pushed c.requires
    (search rules) (text_cell pools v c.in-Text.text.now c.in-Text.ensures)

pub returns-in-Some : goal.returns-in-Some
returns-in-Some g c =
    let pools = as_pools c.args.strings.now c.args.stacks.now in
    let v = g.V.TraceValue.value c.args.value.now in
    let found : finmap.get c.args.strings.now c.in-PooledText.id.0 ≡ Some c.in-Some.text.now = search rules in
    let push = c.push_field-in-Some in
    let pushed : Pushed push.result c.args.row.now push.new.self c.as_bytes-in-Some.result.now =
    record { fields = push.ensures.fields; partial = push.ensures.partial } in
    cell_pushed push.result (IsCellOf pools v) c.in-Some.text.now pushed c.requires
    (search rules)
    (pooled_cell pools v c.in-PooledText.id.0 c.in-Some.text.now c.in-PooledText.ensures found)

pub returns-in-Absent : goal.returns-in-Absent
returns-in-Absent g c =
    let pools = as_pools c.args.strings.now c.args.stacks.now in
    let v = g.V.TraceValue.value c.args.value.now in
    let push = c.push_field-in-Absent in
    let pushed : Pushed push.result c.args.row.now push.new.self [] =
    record { fields = push.ensures.fields; partial = push.ensures.partial } in
    cell_pushed push.result (IsCellOf pools v) [] pushed c.requires refl
    (absent_cell pools v c.in-Absent.ensures)

pub returns-in-Natural : goal.returns-in-Natural
returns-in-Natural g c =
    natural_pushed (as_pools c.args.strings.now c.args.stacks.now) (g.V.TraceValue.value c.args.value.now)
    c.in-Natural.number c.push_natural.result _ _ c.in-Natural.ensures c.push_natural.ensures
