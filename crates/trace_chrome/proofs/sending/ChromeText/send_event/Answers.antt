use Rattle.trace_chrome.proofs.RefusedSends.{event_refused}
use Rattle.trace_chrome.proofs.sending.ChromeText.send_event.Goals as goal

pub returns-then-len-ge-ENOUGH-clause-refused : goal.returns-then-len-ge-ENOUGH-clause-refused
returns-then-len-ge-ENOUGH-clause-refused g c =
    event_refused g.W.TraceWrite.told c.args.self.now
    (record { trace = c.push_event.new.self; held = c.push_event.new.out }) c.args.out.now c.send_held.new.out
    c.send_held.result c.in_ok-push_event.ensures c.send_held.ensures.refused
