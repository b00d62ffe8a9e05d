use Rattle.std.proofs.Common.{[], ◌∷◌, refl}
use Rattle.trace_page.proofs.Chains.{chained}
use Rattle.trace_page.proofs.data.writing.put_head.Goals as goal

pub returns-7-clause-tokens : goal.returns-7-clause-tokens
returns-7-clause-tokens c =
    chained c.begin_array.result _ (_ ∷ _ ∷ _ ∷ _ ∷ _ ∷ _ ∷ []) _ _ _ (
      _,
      c.in-Ok-tri.ensures.ok,
      (
        _,
        c.in-Ok-tri-2.ensures.ok,
        (
          _,
          c.in-Ok-tri-3.ensures.ok,
          (_, c.in-Ok-tri-4.ensures.ok, (_, c.in-Ok-tri-5.ensures.ok, (_, c.in-Ok-tri-6.ensures.ok, refl))),
        ),
      ),
    )
    c.begin_array.ensures.ok
