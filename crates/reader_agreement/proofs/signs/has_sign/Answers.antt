use Rattle.std.proofs.Common.{refl, sym, ◌∙◌}
use Rattle.std.proofs.lemmas.List.{at_drop_all}
use Rattle.reader_agreement.specs.Signs.{has_sign}
use Rattle.reader_agreement.proofs.SignAtEachPlace.{not_here, slice_is, stands_here}
use Rattle.reader_agreement.proofs.signs.has_sign.Goals as goal

pub loop-i-init : goal.loop-i-init
loop-i-init c = refl

pub loop-i-preserved : goal.loop-i-preserved
loop-i-preserved c =
    not_here c.args.bytes.now c.loop-i.i _ c.loop-i-test.true
    (slice_is c.args.bytes.now c.loop-i.i c.starts_with.ensures.value) c.if-starts_with.false
    c.loop-i.invariant

pub returns-then-starts_with : goal.returns-then-starts_with
returns-then-starts_with c =
    stands_here c.args.bytes.now c.loop-i.i _ c.loop-i-test.true
    (slice_is c.args.bytes.now c.loop-i.i c.starts_with.ensures.value) c.if-starts_with.true
    c.loop-i.invariant

pub returns : goal.returns
returns c = sym (at_drop_all has_sign c.args.bytes.now c.loop-i.i c.loop-i-test.false) ∙ c.loop-i.invariant
