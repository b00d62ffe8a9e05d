use Rattle.std.proofs.Common.{◌++◌, ap, ◌∙◌, rules}
use Rattle.trace_events.specs.OwnedEvents.{owned_event}
use Rattle.trace_json.specs.EventJson.{IsEventJson}
use Rattle.trace_chrome.proofs.CutLines.{line_cut}
use Rattle.trace_chrome.proofs.trace.event_json.Goals as goal

pub returns : goal.returns
returns c =
    let put = c.in_ok-push_owned_event_line.ensures in
    line_cut (IsEventJson (owned_event c.args.event.now)) put.0 put.1
    (put.2 ∙ ap (λ l. l ++ put.0) c.new-line.ensures.items) (search rules) c.pop.ensures.rest
