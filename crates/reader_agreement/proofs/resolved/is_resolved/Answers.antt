use Rattle.std.proofs.Common.{ap, not, ◌∙◌}
use Rattle.dial9_trace_format.specs.ShownEvents.{shown_event}
use Rattle.reader_agreement.proofs.ResolvedAnswers.{whole_tells}
use Rattle.reader_agreement.proofs.resolved.is_resolved.Goals as goal

pub returns-then-is_none : goal.returns-then-is_none
returns-then-is_none c =
    whole_tells (shown_event c.args.event.now) c.in-Ok.resolved c.in-Ok.is c.first_unresolved.ensures
    (c.is_none.ensures ∙ ap not c.if-is_none.true) c.entries.ensures c.has_entries.ensures
