use Rattle.std.proofs.Common.{rules, ◌≡◌}
use Rattle.trace_writer.specs.Calls.{fresh_state, header}
use Rattle.trace_recordings.proofs.ScriptTurns.{started}
use Rattle.trace_recordings.proofs.player.Player.new.Goals as goal

pub returns-clause-started : goal.returns-clause-started
returns-clause-started c =
    let state : c.in_ok-encoder.encoder.state ≡ fresh_state = search rules in
    let bytes : c.in_ok-bytes.bytes.items ≡ header = search rules in
    started _ _ _ _ _ state c.new-2.ensures.empty c.new-3.ensures.empty bytes c.new-4.ensures.bytes
