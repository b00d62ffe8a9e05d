use Rattle.std.proofs.Common.{string_bytes}
use Rattle.trace_lines.proofs.PlainRuns.{run_put}
use Rattle.trace_lines.proofs.text.push_runs.Goals as goal

pub runs-preserved : goal.runs-preserved
runs-preserved c =
    run_put c.runs.rest.now 64 (string_bytes c.runs.out) c.split_at.ensures.front c.split_at.ensures.back
    c.in_ok-push_run.ensures c.runs.invariant
