use Rattle.std.proofs.Common.{[], ◌∷◌, ap, refl}
use Rattle.json.specs.Json.{string}
use Rattle.trace_page.proofs.Chains.{chained, member_is}
use Rattle.trace_page.proofs.schemas.put_schema.Goals as goal

pub returns-6-clause-tokens : goal.returns-6-clause-tokens
returns-6-clause-tokens c =
    chained c.end_object.result _ (_ ∷ _ ∷ _ ∷ _ ∷ _ ∷ []) _ _ _ (
      _,
      c.in-Ok-tri.ensures.ok,
      (
        _,
        member_is _ _ _ (string c.args.schema.now.entry.name) (ap string c.name.ensures) c.in-Ok-tri-2.ensures.tokens,
        (_, c.in-Ok-tri-3.ensures.tokens, (_, c.in-Ok-tri-4.ensures.tokens, (_, c.in-Ok-tri-5.ensures.tokens, refl))),
      ),
    )
    c.end_object.ensures.ok
