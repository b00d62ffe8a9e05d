use Rattle.std.proofs.Common.{[], ◌∷◌, refl}
use Rattle.trace_page.proofs.Chains.{chained}
use Rattle.trace_page.proofs.schemas.put_roles_member.Goals as goal

pub returns-clause-tokens : goal.returns-clause-tokens
returns-clause-tokens c =
    chained c.put_roles.result _ (_ ∷ []) _ _ _ (_, c.in_ok-key.ensures.ok, refl) c.put_roles.ensures.tokens
