use Rattle.std.proofs.Common.{[], ◌∷◌, ap, refl}
use Rattle.std.specs.Fmt.{decimal}
use Rattle.json.specs.Json.{string, number}
use Rattle.trace_values.specs.FieldTypes.{tag}
use Rattle.trace_values.specs.declared.types.field_type.FieldType.{FieldType}
use Rattle.trace_page.specs.PageSchemas.{text_or_null, unit_at, counter_at}
use Rattle.trace_page.proofs.Chains.{chained, member_is}
use Rattle.trace_page.proofs.schemas.put_named_field.Goals as goal

pub returns-6-clause-tokens : goal.returns-6-clause-tokens
returns-6-clause-tokens c =
    let e = c.args.entry.now in
    let f = c.args.field.now in
    chained c.end_object.result _ (_ ∷ _ ∷ _ ∷ _ ∷ _ ∷ []) _ _ _ (
      _,
      c.in-Ok-tri.ensures.ok,
      (
        _,
        member_is _ _ _ (string f.name) (ap string c.name.ensures) c.in-Ok-tri-2.ensures.tokens,
        (
          _,
          member_is _ _ _ (number (decimal (tag f.field_type)))
              (ap (λ (t : FieldType). number (decimal (tag t))) c.field_type.ensures) c.in-Ok-tri-3.ensures.tokens,
          (
            _,
            member_is _ _ _ (text_or_null (unit_at e c.args.place)) (ap text_or_null c.field_unit.ensures)
                c.in-Ok-tri-4.ensures.tokens,
            (
              _,
              member_is _ _ _ (text_or_null (counter_at e c.args.place)) (ap text_or_null c.field_counter.ensures)
                  c.in-Ok-tri-5.ensures.tokens,
              refl,
            ),
          ),
        ),
      ),
    )
    c.end_object.ensures.ok
