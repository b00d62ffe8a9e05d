use Rattle.std.proofs.Common.{◌∙◌}
use Rattle.reader_agreement.proofs.SideBySide.{at_end, begins, one_more, one_other}
use Rattle.reader_agreement.proofs.tables.same_schemas.Goals as goal

pub loop-id-init : goal.loop-id-init
loop-id-init c = (
  tt,
  tt,
  begins _ _ (c.into_iter-id-iterator.ensures.into_iter_gives ∙ c.entries-id-items.ensures) c.entries-others.ensures,
)

pub loop-id-preserved : goal.loop-id-preserved
loop-id-preserved c = (
  tt,
  tt,
  one_more _ _ _ c.loop-id.invariant.2 c.in-Some.ensures.steps
      (c.is_next_schema.ensures.next c.if-not-is_next_schema.false),
)

pub returns-then-not-is_next_schema : goal.returns-then-not-is_next_schema
returns-then-not-is_next_schema c =
    one_other _ _ _ c.loop-id.invariant.2 c.in-Some.ensures.steps c.is_next_schema.ensures.other
    c.if-not-is_next_schema.true

pub returns : goal.returns
returns c =
    at_end _ c.next-2.result _ _ c.loop-id.invariant.2 c.in-None.ensures.steps.0 c.next-2.ensures.steps
    c.is_none.ensures
