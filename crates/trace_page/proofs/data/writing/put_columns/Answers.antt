use Rattle.std.proofs.Common.{[], ◌∷◌, refl}
use Rattle.trace_page.proofs.Chains.{chained}
use Rattle.trace_page.proofs.data.writing.put_columns.Goals as goal

pub returns-4-clause-tokens : goal.returns-4-clause-tokens
returns-4-clause-tokens c =
    chained c.end_object.result _ (_ ∷ _ ∷ _ ∷ []) _ _ _
    (_, c.in-Ok-tri.ensures.ok, (_, c.in-Ok-tri-2.ensures.tokens, (_, c.in-Ok-tri-3.ensures.tokens, refl)))
    c.end_object.ensures.ok
