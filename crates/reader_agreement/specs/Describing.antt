-- What an event comes with, beside what a reader knows.
use Rattle.std.specs.Prelude.{◌≡◌, Some, Result}
use Rattle.std.specs.FinMap as map
use Rattle.std.specs.Ordering.{nat_cmp}
use Rattle.trace_wire.specs.Registries.{entry_under}
use Rattle.trace_wire.specs.Runs.{Pools}
use Rattle.trace_wire.specs.Schemas.{WireType}
use Rattle.dial9_trace_format.specs.Resolving.{Resolved}
use Rattle.dial9_trace_format.specs.ShownEvents.{ShownEvent}
use Rattle.dial9_trace_format.specs.declared.resolve.ResolvedEvent.{ResolvedEvent}
use Rattle.dial9_trace_format.specs.declared.resolve.error.DeserError.{DeserError}

-- its schema is the one under its wire id, under whose name it is shown, and its pools are those of the reader
pub record IsDescribed (types : map.FinMap nat_cmp WireType) (pools : Pools) (event : ShownEvent) : Type 0 where
  pub known : entry_under types event.id ≡ Some event.entry
  pub named : event.name ≡ event.entry.name
  pub pooled : event.pools ≡ pools

-- so it is described, and this is what it resolves to
pub record IsToldWhole (types : map.FinMap nat_cmp WireType) (pools : Pools) (event : ShownEvent)
    (answer : Result ResolvedEvent DeserError) : Type 0 where
  pub described : IsDescribed types pools event
  pub resolved : Resolved event answer
