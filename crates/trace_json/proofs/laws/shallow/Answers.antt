use Rattle.trace_json.proofs.Shallow.{run_is_shallow}
use Rattle.trace_json.proofs.laws.shallow.Goals as goal

pub returns : goal.returns
returns c = run_is_shallow
