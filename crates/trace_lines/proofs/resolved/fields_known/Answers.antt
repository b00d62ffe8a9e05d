use Rattle.std.proofs.Common.{List, ap, map as list_map}
use Rattle.std.proofs.lemmas.Result.{err_from_is_err_and}
use Rattle.trace_wire.specs.Schemas.{Field}
use Rattle.dial9_trace_format.specs.ShownEvents.{names_of}
use Rattle.dial9_trace_format.specs.parts.Resolving.{as_pools}
use Rattle.dial9_trace_format.specs.Resolving.{field_unresolved}
use Rattle.dial9_trace_format.proofs.ValuesResolved.{field_first}
use Rattle.trace_lines.proofs.NamedValues.{no_name_left, field_known, all_known}
use Rattle.trace_lines.proofs.resolved.fields_known.Goals as goal

pub loop-value-init : goal.loop-value-init
loop-value-init g c =
    let e = c.args.event.now in
    ap (λ (ns : List Field). field_unresolved (as_pools e.strings.now e.stacks.now) (names_of ns)
    (list_map g.V.FieldLine.value e.values.now)) c.fields-names.ensures

pub returns-in_default : goal.returns-in_default
returns-in_default g c =
    let e = c.args.event.now in
    no_name_left g.V.FieldLine.value (as_pools e.strings.now e.stacks.now) c.loop-value.names.now e.values.now
    c.loop-value.value-index _ c.in_default.ensures.cases
    (record { inside = c.loop-value-test.true; is = c.value-item.is }) c.loop-value.invariant

pub returns-in_err-field_known : goal.returns-in_err-field_known
returns-in_err-field_known g c =
    let p = err_from_is_err_and c.from_residual.result c.from_residual.ensures.1 in
    rw (p.1, p.2) (field_first g.V.FieldLine.value _ c.args.event.now.values.now c.loop-value.value-index _
    c.in-Some.ensures.cases.0 c.loop-value-test.true c.value-item.is c.loop-value.invariant
    c.in_err-field_known.ensures)

pub loop-value-preserved : goal.loop-value-preserved
loop-value-preserved g c =
    let e = c.args.event.now in
    field_known g.V.FieldLine.value (as_pools e.strings.now e.stacks.now) e.values.now c.loop-value.value-index
    c.in-Some.ensures.cases.0 (record { inside = c.loop-value-test.true; is = c.value-item.is })
    c.in_ok-field_known.ensures.0 c.loop-value.invariant

pub returns : goal.returns
returns g c =
    let e = c.args.event.now in (
      all_known g.V.FieldLine.value (as_pools e.strings.now e.stacks.now) c.loop-value.names.now e.values.now
          c.loop-value.value-index _ c.loop-value-test.false c.loop-value.invariant,
      tt,
    )
