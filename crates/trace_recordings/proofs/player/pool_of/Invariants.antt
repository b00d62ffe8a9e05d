use Rattle.std.proofs.Common.{◌≡◌, map, take}
use Rattle.trace_wire.specs.PoolEntries.{string_entries_of}
use Rattle.trace_recordings.specs.Playing.{pool_text_of}
use Rattle.trace_recordings.proofs.player.pool_of.Given as goal

abbrev pub invariant-loop-text : goal.invariant-loop-text
invariant-loop-text l = string_entries_of l.entries.items ≡ map pool_text_of (take l.text-index l.texts)
