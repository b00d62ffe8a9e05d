use Rattle.trace_chrome.proofs.RefusedSends.{end_refused}
use Rattle.trace_chrome.proofs.sending.ChromeText.finish.Goals as goal

pub returns-clause-refused : goal.returns-clause-refused
returns-clause-refused g c =
    end_refused g.W.TraceWrite.told c.args.self.now
    (record { trace = c.args.self.now.trace; held = c.push_tail.new.out }) c.args.out.now c.send_held.new.out
    c.send_held.result c.in_ok-push_tail.ensures.text c.send_held.ensures.refused
