use Rattle.std.proofs.Common.{List, sym, ap, ◌∙◌}
use Rattle.trace_wire.specs.Schemas.{Field}
use Rattle.dial9_trace_format.specs.parts.Resolving.{as_pools}
use Rattle.reader_agreement.proofs.Lookups.{first, missing_of, name_missing, field_missing, field_there, fields_there}
use Rattle.reader_agreement.proofs.resolved.first_unresolved.Goals as goal

pub loop-field-init : goal.loop-field-init
loop-field-init c =
    let e = c.args.event.now in
    let p = as_pools e.string_pool.now e.stack_pool.now in
    ap (λ (ns : List Field). first (missing_of p ns e.fields.now)) c.fields-names.ensures

pub returns-in_default : goal.returns-in_default
returns-in_default c =
    let e = c.args.event.now in
    name_missing (as_pools e.string_pool.now e.stack_pool.now) c.loop-field.names.now e.fields.now
    c.loop-field.field-index c.in_default.ensures.cases c.loop-field-test.true c.field-item.is c.loop-field.invariant

pub returns-then-is_some : goal.returns-then-is_some
returns-then-is_some c =
    let e = c.args.event.now in
    field_missing (as_pools e.string_pool.now e.stack_pool.now) e.fields.now c.loop-field.field-index
    c.in-Some.ensures.cases.0 c.loop-field-test.true c.field-item.is c.unknown_id-unknown.ensures
    (sym c.is_some.ensures ∙ c.if-is_some.true) c.loop-field.invariant

pub loop-field-preserved : goal.loop-field-preserved
loop-field-preserved c =
    let e = c.args.event.now in
    field_there (as_pools e.string_pool.now e.stack_pool.now) e.fields.now c.loop-field.field-index
    c.in-Some.ensures.cases.0 c.loop-field-test.true c.field-item.is c.unknown_id-unknown.ensures
    (sym c.is_some.ensures ∙ c.if-is_some.false) c.loop-field.invariant

pub returns : goal.returns
returns c =
    let e = c.args.event.now in
    fields_there (as_pools e.string_pool.now e.stack_pool.now) c.loop-field.names.now e.fields.now
    c.loop-field.field-index c.loop-field-test.false c.loop-field.invariant
