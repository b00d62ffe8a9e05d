use Rattle.std.proofs.Common.{List, ℕ, Bor, option_map, sym, ap, ◌∙◌}
use Rattle.trace_events.specs.OwnedEvents.{owned_event}
use Rattle.trace_folded.proofs.OneTextMore.{only_stack_of}
use Rattle.trace_folded.proofs.tally.FoldedStacks.add_event.Goals as goal

pub returns-in-Some-clause-others : goal.returns-in-Some-clause-others
returns-in-Some-clause-others c =
    only_stack_of (owned_event c.args.event.now) c.in-Some.stack.now c.args.self.now c.add_amount.new.self
    c.add_amount.result
    (sym (ap (option_map (λ (s : Bor (List ℕ)). s.now)) c.in-Some.is) ∙ c.first_stack.ensures)
    c.add_amount.ensures.others
