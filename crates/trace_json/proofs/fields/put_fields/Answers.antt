use Rattle.std.proofs.Common.{[], ap, refl, ◌∙◌, drop}
use Rattle.std.proofs.lemmas.Result.{err_from_is_err_and}
use Rattle.dial9_trace_format.specs.parts.Resolving.{as_pools}
use Rattle.dial9_trace_format.specs.ShownEvents.{names_of}
use Rattle.trace_json.specs.EventJson.{AreFieldsJson}
use Rattle.trace_json.specs.parts.Put.{member_tokens}
use Rattle.trace_json.proofs.Grown.{all_grown, field_grown, none_grown}
use Rattle.trace_json.proofs.OneMore.{drop_next}
use Rattle.trace_json.proofs.fields.put_fields.Goals as goal

pub fields-init : goal.fields-init
fields-init g c =
    let e = c.args.event.now in
    record {
      names = ap names_of c.fields-names.ensures;
      grown = none_grown member_tokens
          (AreFieldsJson (as_pools e.string_pool.now e.stack_pool.now) (names_of e.schema.now.fields) [])
          c.args.out.now refl (g.met.L.GrowingJson.empty c.args.out.now);
    }

pub fields-preserved : goal.fields-preserved
fields-preserved g c =
    let e = c.args.event.now in
    record {
      names = c.first_name.ensures.others ∙ ap (drop 1) c.fields.invariant.names
          ∙ drop_next c.fields.value-index (names_of e.schema.now.fields);
      grown = field_grown g.met.L.GrowingJson.joins (as_pools e.string_pool.now e.stack_pool.now)
          (names_of e.schema.now.fields) g.V.TraceValue.value
          (record {
            inside = c.fields-test.true;
            is = c.value-item.is;
          }) (record { rest = c.fields.invariant.names; named = c.first_name.ensures.name })
          c.fields.invariant.grown c.in_ok-put_mark.ensures c.in_ok-put_value.ensures;
    }

pub returns-in_err-put_mark : goal.returns-in_err-put_mark
returns-in_err-put_mark g c =
    let p = err_from_is_err_and c.from_residual.result c.from_residual.ensures.1 in
    rw (p.1, p.2) (g.met.L.GrowingJson.carries _ _ _ _ _ c.fields.invariant.grown.grown c.in_err-put_mark.ensures)

pub returns-in_err-put_value : goal.returns-in_err-put_value
returns-in_err-put_value g c =
    let carries = g.met.L.GrowingJson.carries in
    let given = c.from_residual-in_err-put_value in
    let p = err_from_is_err_and given.result given.ensures.1 in
    rw (p.1, p.2) (carries _ _ _ _ _ c.fields.invariant.grown.grown (carries _ _ _ _ _ c.in_ok-put_mark.ensures
    c.in_err-put_value.ensures))

pub returns : goal.returns
returns g c =
    let e = c.args.event.now in
    all_grown member_tokens (AreFieldsJson (as_pools e.string_pool.now e.stack_pool.now)
    (names_of e.schema.now.fields)) g.V.TraceValue.value e.values.now c.fields.value-index c.fields-test.false
    c.fields.invariant.grown
