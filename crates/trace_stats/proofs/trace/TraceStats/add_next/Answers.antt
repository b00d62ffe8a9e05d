use Rattle.std.proofs.Common.{ap₂, ℕ, ◌-◌, ◌∙◌}
use Rattle.trace_stats.proofs.EventsOfRun.{next_counted, next_refused, next_none}
use Rattle.trace_stats.proofs.trace.TraceStats.add_next.Goals as goal

pub returns-in-Ok-clause-next : goal.returns-in-Ok-clause-next
returns-in-Ok-clause-next c = λ works.
    next_counted c.args.decoder.now c.next_frame.new.self c.args.self.now c.add_frame.new.self _ c.in-Ok-Some.field-0-is
    (c.saturating_sub-bytes.ensures ∙ ap₂ (λ (a b : ℕ). a - b) c.position.ensures c.position-before.ensures) c.in-Ok.is
    (c.in-Ok-Some.ensures.next works) c.add_frame.ensures

pub returns-in-Ok-Some-clause-next : goal.returns-in-Ok-Some-clause-next
returns-in-Ok-Some-clause-next c = λ works.
    next_refused c.in-Err-add_frame.error c.args.decoder.now c.next_frame.new.self c.args.self.now c.add_frame.new.self
    c.in-Ok-Some.field-0-is
    (c.saturating_sub-bytes.ensures ∙ ap₂ (λ (a b : ℕ). a - b) c.position.ensures c.position-before.ensures)
    c.in-Err-add_frame.is (c.in-Ok-Some.ensures.next works) c.add_frame.ensures

pub returns-in-Ok-None-clause-next : goal.returns-in-Ok-None-clause-next
returns-in-Ok-None-clause-next c = λ works.
    next_none _ _ c.args.self.now c.in-Ok-None.field-0-is (c.in-Ok-None.ensures.next works)
