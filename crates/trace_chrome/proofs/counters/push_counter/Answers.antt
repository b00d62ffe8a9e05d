use Rattle.std.proofs.Common.{◌≡◌, rules}
use Rattle.trace_events.specs.OwnedEvents.{owned_event}
use Rattle.trace_chrome.proofs.OneCounterMore.{something_shown, one_counted, none_counted}
use Rattle.trace_chrome.proofs.counters.push_counter.Goals as goal

pub returns-in-Some-clause-text : goal.returns-in-Some-clause-text
returns-in-Some-clause-text c =
    let spot = c.args.spot in
    let told : c.deref.result.now ≡ c.in-Some.shown.items = search rules in
    one_counted c.push_count.result spot.at spot.from c.args.out.now.items _
    (something_shown (owned_event c.args.event.now) spot.track c.args.index c.args.sums.now.items (λ v. v.items)
    (c.counter_at-counter.ensures, c.in-Some.is, told) c.in_ok-shown.ensures.shown)
    c.push_count.ensures

pub returns-in-None-clause-text : goal.returns-in-None-clause-text
returns-in-None-clause-text c =
    let spot = c.args.spot in
    none_counted (owned_event c.args.event.now) spot.track c.args.index c.args.sums.now.items c.args.out.now.items
    (λ v. v.items) (c.counter_at-counter.ensures, c.in-None.is) c.in_ok-shown.ensures.shown
