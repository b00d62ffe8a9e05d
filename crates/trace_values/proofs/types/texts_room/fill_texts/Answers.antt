use Rattle.std.proofs.Common.{refl}
use Rattle.trace_values.proofs.RoomsFilled.{pair_put, all_put, key_within, value_within}
use Rattle.trace_values.proofs.types.texts_room.fill_texts.Goals as goal

pub returns : goal.returns
returns g c =
    all_put (λ p. (g.T.TextPart.bytes p.0, g.T.TextPart.bytes p.1)) c.args.pairs.now c.loop-pair.pair-index
    c.loop-pair-test.false c.requires c.loop-pair.invariant

pub loop-pair-init : goal.loop-pair-init
loop-pair-init g c = record { place = refl; front = refl; long = refl }

pub fill_counted-at-requires : goal.fill_counted-at-requires
fill_counted-at-requires g c =
    key_within (λ p. (g.T.TextPart.bytes p.0, g.T.TextPart.bytes p.1)) c.args.pairs.now c.loop-pair.pair-index
    c.loop-pair-test.true c.pair-item.is c.bytes.ensures c.requires c.loop-pair.invariant

pub fill_counted-at-requires-in-loop-pair : goal.fill_counted-at-requires-in-loop-pair
fill_counted-at-requires-in-loop-pair g c =
    value_within (λ p. (g.T.TextPart.bytes p.0, g.T.TextPart.bytes p.1)) c.args.pairs.now c.loop-pair.pair-index
    c.loop-pair-test.true c.pair-item.is c.bytes.ensures c.bytes-in-loop-pair.ensures c.requires
    c.loop-pair.invariant (record { put = c.fill_counted-at.ensures.bytes; ends = c.fill_counted-at.ensures.end })

pub loop-pair-preserved : goal.loop-pair-preserved
loop-pair-preserved g c =
    let before = c.loop-pair in
    let key = c.fill_counted-at.ensures in
    let value = c.fill_counted-at-in-loop-pair.ensures in
    pair_put (λ p. (g.T.TextPart.bytes p.0, g.T.TextPart.bytes p.1)) c.args.pairs.now before.pair-index
    (c.loop-pair-test.true, c.pair-item.is) c.bytes.ensures c.bytes-in-loop-pair.ensures c.requires before.invariant
    (record { put = key.bytes; ends = key.end }) (record { put = value.bytes; ends = value.end })
