use Rattle.std.proofs.Common.{◌≡◌, List, [], ◌∷◌, ◌++◌, length, ap, ◌∙◌, rules}
use Rattle.trace_stats.specs.declared.schema.SchemaStats.{SchemaStats}
use Rattle.trace_stats.proofs.EventAddedToTrace.{placed_last}
use Rattle.trace_stats.proofs.trace.TraceStats.put_last.Goals as goal

pub returns-clause-placed : goal.returns-clause-placed
returns-clause-placed c =
    let at : c.len-place.result ≡ length c.args.self.now.schemas.items = search rules in
    placed_last _ _ _ c.in_ok-stats.stats _ c.requires at
    (c.push_reserved.ensures.items
    ∙ ap (λ (l : List SchemaStats). l ++ c.in_ok-stats.stats ∷ []) c.reserve.ensures.items)
    c.in_ok-stats.ensures.schema c.in_ok-stats.ensures.stats
