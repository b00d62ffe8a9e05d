use Rattle.std.proofs.Common.{rules, None}
use Rattle.trace_recordings.specs.Scripts.{IsBrokenAt, IsFirstLine, GainsCall}
use Rattle.trace_recordings.proofs.ScriptLines.{broken_at, the_last}
use Rattle.trace_recordings.proofs.script.script_of.Goals as goal

pub returns-in-None-clause-read : goal.returns-in-None-clause-read
returns-in-None-clause-read c =
    let first : IsFirstLine c.loop-calls.rest.now c.first_line.result.0.now None = search rules in
    let gains : GainsCall c.loop-calls.calls.items c.push_call.new.calls.items c.first_line.result.0.now =
    search rules in
    the_last _ _ _ _ _ c.loop-calls.invariant first gains

pub returns-in_err-push_call-clause-broken : goal.returns-in_err-push_call-clause-broken
returns-in_err-push_call-clause-broken c =
    let broken : IsBrokenAt c.args.text.now c.in_err-push_call.field-0.0 =
    broken_at _ _ _ _ _ _ c.loop-calls.invariant c.first_line.ensures.line c.in_err-push_call.ensures.counts
    c.in_err-push_call.ensures.unsaid in
    search rules
