use Rattle.trace_events.proofs.EventOfFrame.{frame_event, frame_no_event}
use Rattle.trace_events.proofs.event.OwnedEvent.of_frame.Goals as goal

pub returns-in-Some-clause-event : goal.returns-in-Some-clause-event
returns-in-Some-clause-event c =
    frame_event c.args.frame.now _ _ _ c.in-Event.is c.in-Some.ensures c.as_slice.ensures.value

pub returns-in-None-clause-none : goal.returns-in-None-clause-none
returns-in-None-clause-none c = frame_no_event c.args.frame.now _ _ _ c.in-Event.is c.in-None.ensures
