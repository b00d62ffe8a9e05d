use Rattle.trace_stats.proofs.EventAddedToTrace.{place_found, no_place}
use Rattle.trace_stats.proofs.trace.is_at.Goals as goal

pub returns-clause-there : goal.returns-clause-there
returns-clause-there c =
    place_found c.args.schema.now c.args.schemas.now _ _ _ c.requires c.index-schemas-place.is c.is_of.ensures

pub returns-clause-other : goal.returns-clause-other
returns-clause-other c =
    no_place c.args.schema.now c.args.schemas.now _ _ _ c.requires c.index-schemas-place.is c.is_of.ensures
