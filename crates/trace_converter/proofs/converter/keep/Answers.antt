use Rattle.std.proofs.Common.{List, [], ◌∷◌, ◌++◌, ap, ◌∙◌}
use Rattle.std.proofs.lemmas.List.{take_more}
use Rattle.trace_values.specs.Refs.{ref_view}
use Rattle.trace_values.specs.ValueViews.{view, views}
use Rattle.trace_wire.specs.Schemas.{Field}
use Rattle.dial9_trace_format.specs.ShownEvents.{shown_event}
use Rattle.trace_converter.proofs.ConvertedFields.{field_lacks, field_found, no_room, value_refused, names_at}
use Rattle.trace_converter.proofs.ConvertedFields.{has_more, views_more}
use Rattle.trace_converter.proofs.converter.keep.Goals as goal

pub returns-in_default-clause-refused : goal.returns-in_default-clause-refused
returns-in_default-clause-refused g c =
    field_lacks c.args.rule.now c.loop-names.names-index _ c.loop-names-test.true c.loop-names.invariant.so_far
    (rw c.fields.ensures at c.in_default.ensures)

pub returns-in_err-reserve-clause-refused : goal.returns-in_err-reserve-clause-refused
returns-in_err-reserve-clause-refused g c =
    no_room c.args.rule.now c.loop-names.names-index c.from_residual.result c.from_residual.ensures.1
    c.loop-names.invariant.so_far

pub returns-in_err-reserve-2-clause-refused : goal.returns-in_err-reserve-2-clause-refused
returns-in_err-reserve-2-clause-refused g c =
    let failed = c.from_residual-in_err-reserve-2 in
    no_room c.args.rule.now c.loop-names.names-index failed.result failed.ensures.1 c.loop-names.invariant.so_far

pub returns-in_err-new-clause-refused : goal.returns-in_err-new-clause-refused
returns-in_err-new-clause-refused g c =
    let failed = c.from_residual-in_err-new in
    no_room c.args.rule.now c.loop-names.names-index failed.result failed.ensures.1 c.loop-names.invariant.so_far

pub returns-in_err-converted-clause-refused : goal.returns-in_err-converted-clause-refused
returns-in_err-converted-clause-refused g c =
    let failed = c.from_residual-in_err-converted in
    let i = c.loop-names.names-index in
    let v = ref_view c.in-Some.value.now in
    (value_refused c.converted.new.encoder c.args.rule.now i _ _ c.in_err-converted.field-0.0 failed.result
    failed.ensures.1)
    (names_at c.args.rule.now i _ c.loop-names-test.true)
    (field_found c.args.rule.now i _ (shown_event c.args.event.now) c.in-Some.field_type v
    (rw c.fields.ensures at c.in-Some.ensures))
    c.loop-names.invariant.so_far c.in_err-converted.ensures.refused

pub loop-names-preserved : goal.loop-names-preserved
loop-names-preserved g c =
    let v = ref_view c.in-Some.value.now in
    let field = c.in_ok-new.field-0 in
    let old_fields = c.in_ok-reserve.ensures.items in
    let old_values = c.in_ok-reserve-2.ensures.items in
    record {
      so_far = has_more _ _ (view c.in_ok-converted.field-0)
          (take_more c.args.rule.now.fields.now c.loop-names.names-index _ c.loop-names-test.true)
          (field_found c.args.rule.now c.loop-names.names-index _ (shown_event c.args.event.now) c.in-Some.field_type v
          (rw c.fields.ensures at c.in-Some.ensures))
          (c.push_reserved.ensures.items ∙ ap (λ (xs : List Field). xs ++ field ∷ []) old_fields
          ∙ ap (λ (f : Field). c.loop-names.fields.items ++ f ∷ []) c.in_ok-new.ensures)
          (views_more _ _ c.in_ok-converted.field-0 c.push_reserved-in-loop-names.ensures.items
          ∙ ap (λ xs. views xs ++ view c.in_ok-converted.field-0 ∷ []) old_values)
          c.loop-names.invariant.so_far c.in_ok-converted.ensures.converted;
    }
