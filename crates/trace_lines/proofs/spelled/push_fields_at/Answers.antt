use Rattle.std.proofs.Common.{◌+◌, ◌∙◌, ◌∷◌, ap, arith, drop, sym}
use Rattle.std.proofs.lemmas.List.{drop_all, length-map}
use Rattle.std.proofs.lemmas.Result.{err_from_is_err_and}
use Rattle.trace_values.specs.declared.types.field_type.FieldType.{FieldType}
use Rattle.trace_wire.specs.Schemas.{Field, types_of}
use Rattle.trace_wire.proofs.ReadersGoOn.{dropped_field}
use Rattle.trace_lines.proofs.SpelledParts.{fields_begin, fields_end, fields_go_on, fields_stop, fields_stop_first}
use Rattle.trace_lines.proofs.spelled.push_fields_at.Goals as goal

pub fields-init : goal.fields-init
fields-init g c = fields_begin g.L.GrowingLine.grows (types_of c.args.fields.now) c.args.out.now c.args.bytes.now

pub fields-preserved : goal.fields-preserved
fields-preserved g c =
    let types = types_of c.args.fields.now in
    let d = dropped_field c.args.fields.now c.fields.field-index c.field-item.result c.fields-test.true c.field-item.is
    ∙ ap (λ (x : FieldType). x ∷ drop (c.fields.field-index + 1) types) (sym c.field_type.ensures) in
    fields_go_on types c.field_type.result g.met.L.GrowingLine.joins d c.fields.invariant c.in_ok-put.ensures
    c.in_ok-rest.ensures

pub returns-in_err-put : goal.returns-in_err-put
returns-in_err-put g c =
    let p = err_from_is_err_and c.from_residual.result c.from_residual.ensures.1 in
    let types = types_of c.args.fields.now in
    let d = dropped_field c.args.fields.now c.fields.field-index c.field-item.result c.fields-test.true
    c.field-item.is in
    rw (p.1, p.2) (fields_stop_first types _ g.met.L.GrowingLine.stops d c.fields.invariant c.in_err-put.ensures)

pub returns-in_err-rest : goal.returns-in_err-rest
returns-in_err-rest g c =
    let given = c.from_residual-in_err-rest in
    let p = err_from_is_err_and given.result given.ensures.1 in
    let types = types_of c.args.fields.now in
    let d = dropped_field c.args.fields.now c.fields.field-index c.field-item.result c.fields-test.true c.field-item.is
    ∙ ap (λ (x : FieldType). x ∷ drop (c.fields.field-index + 1) types) (sym c.field_type.ensures) in
    rw (p.1, p.2) (fields_stop types c.field_type.result g.met.L.GrowingLine.joins g.met.L.GrowingLine.stops d
    c.fields.invariant
    c.in_ok-put.ensures c.in_err-rest.ensures)

pub returns : goal.returns
returns g c =
    let types = types_of c.args.fields.now in
    fields_end types c.fields.field-index c.args.bytes.now c.fields.rest _ g.met.L.GrowingLine.empty
    (drop_all c.fields.field-index types (omega (
      arith,
      length-map c.args.fields.now (λ (x : Field). x.field_type),
      c.fields-test.false,
    ))) c.fields.invariant
