use Rattle.trace_stats.proofs.EventAddedToTrace.{stats_none}
use Rattle.trace_stats.proofs.trace.TraceStats.new.Goals as goal

pub returns : goal.returns
returns c = stats_none _ c.new.ensures.items
