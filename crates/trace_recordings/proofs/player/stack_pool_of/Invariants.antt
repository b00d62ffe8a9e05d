use Rattle.std.proofs.Common.{◌≡◌, map, take}
use Rattle.trace_wire.specs.PoolEntries.{stack_entries_of}
use Rattle.trace_recordings.specs.Playing.{pool_stack_of}
use Rattle.trace_recordings.proofs.player.stack_pool_of.Given as goal

abbrev pub invariant-loop-stack : goal.invariant-loop-stack
invariant-loop-stack l = stack_entries_of l.entries.items ≡ map pool_stack_of (take l.stack-index l.stacks)
