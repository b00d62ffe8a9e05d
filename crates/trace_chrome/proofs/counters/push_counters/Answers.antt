use Rattle.std.proofs.Common.{◌≡◌, length, refl, sym, ◌∙◌, rules}
use Rattle.std.proofs.lemmas.List.{length-map}
use Rattle.trace_values.specs.ValueViews.{view}
use Rattle.trace_events.specs.OwnedEvents.{owned_event}
use Rattle.trace_chrome.proofs.OneCounterMore.{sums_added, count_added, none_before, all_summed, all_counted}
use Rattle.trace_chrome.proofs.counters.push_counters.Goals as goal

pub values-init : goal.values-init
values-init c =
    let spot = c.args.spot in
    record {
      sums = refl;
      text = none_before (owned_event c.args.event.now) spot.track spot.at spot.from c.args.sums.now.items
          c.args.out.now.items;
    }

pub values-preserved : goal.values-preserved
values-preserved c =
    let e = owned_event c.args.event.now in
    let spot = c.args.spot in
    let one = c.in_ok-push_counter.ensures in
    let before = c.values.invariant in
    record {
      sums = sums_added e spot.track c.values.index c.args.sums.now.items before.sums one.sums;
      text = count_added e spot.track c.values.index c.args.sums.now.items before.sums c.args.out.now.items _
          before.text one.text;
    }

pub returns-clause-sums : goal.returns-clause-sums
returns-clause-sums c =
    let values = c.args.event.now.values.now in
    let all : c.values.index ≡ length values = search rules in
    all_summed (owned_event c.args.event.now) c.args.spot.track c.args.sums.now.items
    (all ∙ sym (length-map values view)) c.values.invariant.sums

pub returns-clause-text : goal.returns-clause-text
returns-clause-text c =
    let values = c.args.event.now.values.now in
    let all : c.values.index ≡ length values = search rules in
    all_counted (owned_event c.args.event.now) c.args.spot.track c.args.sums.now.items
    (all ∙ sym (length-map values view)) c.values.invariant.text
