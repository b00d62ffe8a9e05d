use Rattle.std.proofs.Common.{◌≡◌}
use Rattle.trace_events.specs.OwnedEvents.{owned_event}
use Rattle.trace_chrome.specs.Counters.{sums_of_first}
use Rattle.trace_chrome.specs.parts.Counts.{CountsFirst}
use Rattle.trace_chrome.proofs.counters.push_counters.Given as goal

abbrev pub invariant-values : goal.invariant-values
invariant-values l = record {
  sums : l.sums.items ≡ sums_of_first (owned_event l.event) l.spot.track l.initial.sums.items l.index;
  text : CountsFirst (owned_event l.event) l.spot.track l.spot.at l.spot.from l.initial.sums.items l.index
      l.initial.out.items l.out.items;
}
