use Rattle.std.proofs.Common.{◌≡◌, drop}
use Rattle.dial9_trace_format.specs.Resolving.{unresolved_of}
use Rattle.dial9_trace_format.specs.ShownEvents.{shown_event}
use Rattle.dial9_trace_format.specs.parts.Resolving.{as_pools}
use Rattle.reader_agreement.proofs.Lookups.{first, missing_of}
use Rattle.reader_agreement.proofs.resolved.first_unresolved.Given as goal

abbrev pub invariant-loop-field : goal.invariant-loop-field
invariant-loop-field l =
    first (missing_of (as_pools l.event.string_pool.now l.event.stack_pool.now) l.names
    (drop l.field-index l.event.fields.now)) ≡ first (unresolved_of (shown_event l.event))
