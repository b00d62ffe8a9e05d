use Rattle.std.proofs.Common.{◌≡◌, ◌++◌, take}
use Rattle.trace_chrome.specs.Entries.{entries_text}
use Rattle.trace_chrome.specs.Slices.{closings}
use Rattle.trace_chrome.proofs.trace.push_closings.Given as goal

abbrev pub invariant-tracks : goal.invariant-tracks
invariant-tracks l = record {
  text : l.out.items ≡ l.initial.out.items ++ entries_text l.from (closings l.at (take l.track l.tracks));
}
