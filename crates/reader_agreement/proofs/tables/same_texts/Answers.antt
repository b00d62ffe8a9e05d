use Rattle.std.proofs.Common.{◌∙◌}
use Rattle.reader_agreement.proofs.SideBySide.{at_end, map_begins, one_more, one_other}
use Rattle.reader_agreement.proofs.tables.same_texts.Goals as goal

pub loop-id-init : goal.loop-id-init
loop-id-init c = (
  tt,
  tt,
  map_begins c.args.pool.now c.args.other.now
      (c.into_iter-id-iterator.ensures.into_iter_gives ∙ c.iter-id-items.ensures) c.iter-others.ensures,
)

pub loop-id-preserved : goal.loop-id-preserved
loop-id-preserved c = (
  tt,
  tt,
  one_more _ _ _ c.loop-id.invariant.2 c.in-Some.ensures.steps
      (c.is_next_text.ensures.next c.if-not-is_next_text.false),
)

pub returns-then-not-is_next_text : goal.returns-then-not-is_next_text
returns-then-not-is_next_text c =
    one_other _ _ _ c.loop-id.invariant.2 c.in-Some.ensures.steps c.is_next_text.ensures.other
    c.if-not-is_next_text.true

pub returns : goal.returns
returns c =
    at_end _ c.next-2.result _ _ c.loop-id.invariant.2 c.in-None.ensures.steps.0 c.next-2.ensures.steps
    c.is_none.ensures
