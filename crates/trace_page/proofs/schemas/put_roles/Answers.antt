use Rattle.std.proofs.Common.{[], ◌∷◌, ap, refl}
use Rattle.std.specs.Prelude.{codes}
use Rattle.trace_roles.specs.Roles.{of_schema, note_of, field_with_role, track_of}
use Rattle.trace_page.specs.PageSchemas.{index_or_null, text_or_null}
use Rattle.trace_page.proofs.Chains.{chained, member_is}
use Rattle.trace_page.proofs.schemas.put_roles.Goals as goal

pub returns-7-clause-tokens : goal.returns-7-clause-tokens
returns-7-clause-tokens c =
    let e = c.args.entry.now in
    let roles = c.roles_of-roles.ensures in
    chained c.end_object.result _ (_ ∷ _ ∷ _ ∷ _ ∷ _ ∷ _ ∷ []) _ _ _ (
      _,
      c.in-Ok-tri.ensures.ok,
      (
        _,
        member_is _ _ _ (index_or_null (track_of e)) (ap index_or_null roles.track) c.in-Ok-tri-2.ensures.tokens,
        (
          _,
          member_is _ _ _ (index_or_null (field_with_role e (codes "duration"))) (ap index_or_null roles.duration)
              c.in-Ok-tri-3.ensures.tokens,
          (
            _,
            member_is _ _ _ (index_or_null (field_with_role e (codes "name"))) (ap index_or_null roles.name)
                c.in-Ok-tri-4.ensures.tokens,
            (
              _,
              member_is _ _ _ (text_or_null (note_of e of_schema (codes "begin"))) (ap text_or_null roles.begin)
                  c.in-Ok-tri-5.ensures.tokens,
              (
                _,
                member_is _ _ _ (text_or_null (note_of e of_schema (codes "end"))) (ap text_or_null roles.end)
                    c.in-Ok-tri-6.ensures.tokens,
                refl,
              ),
            ),
          ),
        ),
      ),
    )
    c.end_object.ensures.ok
