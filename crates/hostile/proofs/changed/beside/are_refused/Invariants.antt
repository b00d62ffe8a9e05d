use Rattle.std.proofs.Common.{◌≡◌, ◌<◌}
use Rattle.hostile.proofs.changed.beside.are_refused.Given as goal

-- after the first event the decoder stands where the sink's reader does
abbrev pub invariant-events : goal.invariant-events
invariant-events l = 0 < l.counter → l.decoder.position ≡ l.sink.reader.position
