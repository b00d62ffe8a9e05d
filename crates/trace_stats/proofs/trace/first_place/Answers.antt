use Rattle.std.proofs.Common.{◌≤◌, length, arith}
use Rattle.trace_stats.proofs.EventAddedToTrace.{none_first, none_next, none_of_all}
use Rattle.trace_stats.proofs.trace.first_place.Goals as goal

pub places-init : goal.places-init
places-init c = none_first c.args.schema.now c.args.schemas.now

pub places-preserved : goal.places-preserved
places-preserved c =
    none_next c.args.schema.now c.args.schemas.now c.places.place c.places.invariant
    (c.is_at.ensures.other c.if-is_at.false)

pub returns-clause-none : goal.returns-clause-none
returns-clause-none c =
    let le : length c.args.schemas.now ≤ c.places.place = omega (arith, c.places-test.false) in
    none_of_all c.args.schema.now c.args.schemas.now c.places.place le c.places.invariant
