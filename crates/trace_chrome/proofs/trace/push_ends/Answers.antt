use Rattle.std.proofs.Common.{ap, sym}
use Rattle.trace_chrome.specs.Entries.{ends, is_cut}
use Rattle.trace_chrome.specs.Slices.{ends_by}
use Rattle.trace_chrome.specs.parts.Shapes.{told_view}
use Rattle.trace_chrome.proofs.Taking.{end_after}
use Rattle.trace_chrome.proofs.trace.push_ends.Goals as goal

pub returns-in_ok-push_cuts-in-Some : goal.returns-in_ok-push_cuts-in-Some
returns-in_ok-push_cuts-in-Some c =
    let spot = c.args.spot in
    let told = told_view c.args.told in
    end_after c.push_end.result spot.from c.in-Some.count (is_cut spot.track spot.at) (ends spot.track spot.at told)
    c.args.out.now.items _ (ap (λ o. ends_by o spot.track spot.at c.args.group.now told) (sym c.in-Some.is))
    c.in_ok-push_cuts-in-Some.ensures c.push_end.ensures
