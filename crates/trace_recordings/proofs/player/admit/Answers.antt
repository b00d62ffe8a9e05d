use Rattle.std.proofs.Common.{rules}
use Rattle.trace_recordings.specs.Refusals.{LeavesOut}
use Rattle.trace_recordings.proofs.ScriptRefusals.{StandsAt, left_out_at}
use Rattle.trace_recordings.proofs.player.admit.Goals as goal

pub returns-in_err-admit_call-clause-refused : goal.returns-in_err-admit_call-clause-refused
returns-in_err-admit_call-clause-refused c =
    let call = c.index-script-before in
    let stands : StandsAt c.args.script.now c.loop-before.before c.saturating_add.result call.result = record {
      inside = c.loop-before-test.true;
      is = call.is;
      counts = c.saturating_add.ensures;
    } in
    let refused : LeavesOut c.args.script.now c.in_err-admit_call.field-0.0 =
    left_out_at c.in_err-admit_call.field-0.0 stands c.loop-before.invariant c.in_err-admit_call.ensures.refused in
    search rules
