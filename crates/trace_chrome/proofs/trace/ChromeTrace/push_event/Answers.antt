use Rattle.std.proofs.Common.{◌≡◌, Some, ap, rules}
use Rattle.trace_events.specs.OwnedEvents.{owned_event}
use Rattle.trace_chrome.specs.Labels.{track_name}
use Rattle.trace_chrome.specs.Steps.{first_by, track_number}
use Rattle.trace_chrome.proofs.Taking.{event_taken}
use Rattle.trace_chrome.proofs.trace.ChromeTrace.push_event.Goals as goal

pub returns : goal.returns
returns c =
    let e = owned_event c.args.event.now in
    let old = c.args.self.now in
    let name_is : c.as_str.result.now ≡ track_name e = search rules in
    let from_is : c.unwrap_or-from.result ≡ first_by old.start e.time = search rules in
    let placed = c.in_ok-spot.ensures in
    let spot_is : c.in_ok-spot.spot
    ≡ record { track = track_number e old.tracks.items; from = first_by old.start e.time; at = e.time } =
    rw (name_is, from_is) at placed.spot in
    let json_same : c.deref.result.now ≡ c.in_ok-json.json.items = search rules in
    event_taken c.push_counters.result c.args.out.now.items _
    (record {
      json_is = rw (← json_same) at c.in_ok-json.ensures;
      frame = c.in_ok-frame.ensures.number;
      frames = c.in_ok-frame.ensures.frames;
      start = ap Some from_is;
      last = search rules;
    })
    (record { tracks = rw name_is at placed.tracks; text = rw (name_is, from_is) at placed.text })
    (record {
      tracks = rw spot_is at c.in_ok-push_own.ensures.tracks;
      text = rw spot_is at c.in_ok-push_own.ensures.text;
    })
    (rw spot_is at c.push_counters.ensures.sums) (rw spot_is at c.push_counters.ensures.text)
