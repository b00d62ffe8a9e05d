use Rattle.std.proofs.Common.{◌≡◌, rules}
use Rattle.dial9_trace_format.specs.parts.Resolving.{as_pools}
use Rattle.trace_json.specs.EventJson.{special_text}
use Rattle.trace_csv.specs.Cells.{IsCellOf}
use Rattle.trace_csv.proofs.CellsOfRow.{Pushed, cell_pushed, special_cell}
use Rattle.trace_csv.proofs.cells.push_float.Goals as goal

pub returns : goal.returns
returns g c =
    let pools = as_pools c.args.strings.now c.args.stacks.now in
    let v = g.V.TraceValue.value c.args.value.now in
    let text : c.as_bytes.result.now ≡ special_text c.args.bits = search rules in
    let pushed : Pushed c.push_field.result c.args.row.now c.push_field.new.self c.as_bytes.result.now =
    record { fields = c.push_field.ensures.fields; partial = c.push_field.ensures.partial } in
    cell_pushed c.push_field.result (IsCellOf pools v) (special_text c.args.bits) pushed c.requires.whole text
    (special_cell pools v c.args.bits c.f64_from_bits_with_nan.result c.is_finite.result c.requires.float
    c.f64_from_bits_with_nan.ensures c.is_finite.ensures.value c.if-is_finite.false)
