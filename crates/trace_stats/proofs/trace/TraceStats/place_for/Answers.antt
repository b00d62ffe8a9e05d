use Rattle.std.proofs.Common.{inl, refl, List, subst}
use Rattle.trace_stats.specs.declared.schema.SchemaStats.{SchemaStats}
use Rattle.trace_stats.specs.parts.Places.{IsPlaceOf}
use Rattle.trace_stats.proofs.trace.TraceStats.place_for.Goals as goal

pub returns-in-Some-clause-placed : goal.returns-in-Some-clause-placed
returns-in-Some-clause-placed c =
    inl (
      subst (λ (ts : List SchemaStats). IsPlaceOf c.args.schema.now ts c.in-Some.place) c.as_slice.ensures.value
          c.in-Some.ensures.found,
      refl,
    )
