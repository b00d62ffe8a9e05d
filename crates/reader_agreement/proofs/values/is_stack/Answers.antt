use Rattle.std.proofs.Common.{ℕ, refl}
use Rattle.std.proofs.lemmas.List.{drop_more, drop_all}
use Rattle.reader_agreement.proofs.SideBySide.{at_end, begins, one_more, one_other}
use Rattle.reader_agreement.proofs.values.is_stack.Goals as goal

pub loop-address-init : goal.loop-address-init
loop-address-init c = begins _ _ refl c.iter-others.ensures

pub loop-address-preserved-whole : goal.loop-address-preserved-whole
loop-address-preserved-whole c = (
  (tt, tt),
  one_more _ _ _ c.loop-address.invariant
      (drop_more c.args.addresses.now c.loop-address.address-index 0 c.loop-address-test.true)
      (c.is_next_address.ensures.next c.if-not-is_next_address.false),
)

pub returns-then-not-is_next_address : goal.returns-then-not-is_next_address
returns-then-not-is_next_address c =
    one_other _ _ _ c.loop-address.invariant
    (drop_more c.args.addresses.now c.loop-address.address-index 0 c.loop-address-test.true)
    c.is_next_address.ensures.other
    c.if-not-is_next_address.true

pub returns : goal.returns
returns c =
    at_end (λ (x : ℕ). x) c.next.result _ _ c.loop-address.invariant
    (drop_all c.loop-address.address-index c.args.addresses.now c.loop-address-test.false) c.next.ensures.steps
    c.is_none.ensures
