use Rattle.trace_stats.proofs.EventAddedToTrace.{NoneBelow}
use Rattle.trace_stats.proofs.trace.first_place.Given as goal

abbrev pub invariant-places : goal.invariant-places
invariant-places l = NoneBelow l.schema l.schemas l.place
