use Rattle.trace_json.proofs.Shallow.{run_has_events}
use Rattle.trace_json.proofs.laws.of_runs.Goals as goal

pub returns : goal.returns
returns c = run_has_events
