use Rattle.std.proofs.Common.{◌≡◌, rules}
use Rattle.trace_events.specs.OwnedEvents.{owned_event}
use Rattle.trace_chrome.specs.Labels.{what_of, event_name}
use Rattle.trace_chrome.specs.Slices.{begins, takes}
use Rattle.trace_chrome.specs.Tracks.{track_at}
use Rattle.trace_chrome.specs.parts.Shapes.{told_view}
use Rattle.trace_chrome.proofs.Taking.{own_entry, begun_entry, long_entry}
use Rattle.trace_chrome.proofs.trace.push_own.Goals as goal

pub returns-in-Begins-clause-text : goal.returns-in-Begins-clause-text
returns-in-Begins-clause-text c =
    let e = owned_event c.args.event.now in
    let spot = c.args.spot in
    let is : begins c.in-Begins.group.now ≡ what_of e = search rules in
    let same : c.as_str.result.now ≡ event_name e = search rules in
    own_entry c.push_begin.result spot.from _ _ c.args.out.now.items _
    (begun_entry c.in-Begins.group.now spot.track (track_at c.args.tracks.now.items spot.track) spot.at
    (told_view c.args.told) is same) c.push_begin.ensures

pub returns-in-Takes-clause-text : goal.returns-in-Takes-clause-text
returns-in-Takes-clause-text c =
    let e = owned_event c.args.event.now in
    let spot = c.args.spot in
    let is : takes c.in-Takes.length ≡ what_of e = search rules in
    let same : c.as_str-in-Takes.result.now ≡ event_name e = search rules in
    own_entry c.push_slice.result spot.from _ _ c.args.out.now.items _
    (long_entry c.in-Takes.length spot.track (track_at c.args.tracks.now.items spot.track) spot.at
    (told_view c.args.told) is same) c.push_slice.ensures
