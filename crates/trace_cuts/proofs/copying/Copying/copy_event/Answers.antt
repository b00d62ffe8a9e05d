use Rattle.std.proofs.Common.{refl, sym, ◌∙◌}
use Rattle.trace_cuts.proofs.OneFrameCopied.{event_shorter, event_copied, event_passed}
use Rattle.trace_cuts.proofs.copying.Copying.copy_event.Goals as goal

pub keep_event-requires : goal.keep_event-requires
keep_event-requires c = event_shorter c.args.self.now c.args.time c.args.after.now c.requires

pub returns-then-contains : goal.returns-then-contains
returns-then-contains c =
    event_copied c.args.range c.args.self.now _ c.requires
    (sym c.contains.ensures ∙ c.if-contains.true) c.base-event_base.ensures refl c.take_event_step.ensures refl
    c.in_ok-keep_event.ensures

pub returns : goal.returns
returns c =
    event_passed c.args.range c.args.self.now _ c.args.time c.requires
    (sym c.contains.ensures ∙ c.if-contains.false) refl c.take_event_step-2.ensures refl refl
