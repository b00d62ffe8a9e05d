use Rattle.dial9_trace_format.specs.Resolving.{unresolved_of}
use Rattle.dial9_trace_format.specs.ShownEvents.{shown_event}
use Rattle.reader_agreement.proofs.ResolvedAnswers.{first_tells}
use Rattle.reader_agreement.proofs.resolved.is_refusal.Goals as goal

pub returns-in_default : goal.returns-in_default
returns-in_default c =
    first_tells (unresolved_of (shown_event c.args.event.now)) c.args.error.now c.is_first.result
    c.in_default.not-OutOfMemory c.is_first.ensures
