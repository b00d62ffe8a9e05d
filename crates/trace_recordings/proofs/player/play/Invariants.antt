use Rattle.std.proofs.Common.{take}
use Rattle.trace_recordings.specs.Playing.{TurnsEach, playing_of, start}
use Rattle.trace_recordings.proofs.player.play.Given as goal

abbrev pub invariant-loop-before : goal.invariant-loop-before
invariant-loop-before l = TurnsEach start (take l.before l.call-items) (playing_of l.player)
