use Rattle.std.proofs.Common.{◌≡◌, drop}
use Rattle.dial9_trace_format.specs.ResolvedViews.{entry_views, same_entry_values}
use Rattle.dial9_trace_format.specs.Resolving.{fields_in_full}
use Rattle.dial9_trace_format.specs.ShownEvents.{shown_event}
use Rattle.dial9_trace_format.specs.parts.Resolving.{as_pools}
use Rattle.reader_agreement.proofs.InFull.{are_left}
use Rattle.reader_agreement.proofs.resolved.has_fields.Given as goal

abbrev pub invariant-loop-field : goal.invariant-loop-field
invariant-loop-field l =
    are_left (as_pools l.event.string_pool.now l.event.stack_pool.now) l.names
    (drop l.field-index l.event.fields.now) l.rest
    ≡ same_entry_values (entry_views l.entries) (fields_in_full (shown_event l.event))
