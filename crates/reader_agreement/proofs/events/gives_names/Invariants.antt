use Rattle.std.proofs.Common.{◌≡◌, drop}
use Rattle.dial9_trace_format.specs.ShownEvents.{names_left, names_of}
use Rattle.reader_agreement.proofs.SideBySide.{LeftAlike}
use Rattle.reader_agreement.proofs.events.gives_names.Given as goal

abbrev pub invariant-loop-field : goal.invariant-loop-field
invariant-loop-field l = LeftAlike (names_of l.fields ≡ names_of l.event.schema.now.fields)
    (names_of (drop l.field-index l.fields)) (names_left l.names)
