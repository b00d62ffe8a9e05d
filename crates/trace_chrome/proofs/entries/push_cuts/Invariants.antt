use Rattle.std.proofs.Common.{◌≡◌, ◌++◌}
use Rattle.trace_chrome.specs.parts.Parts.{cuts_text}
use Rattle.trace_chrome.proofs.entries.push_cuts.Given as goal

abbrev pub invariant-cuts : goal.invariant-cuts
invariant-cuts l = record {
  text : l.out.items ≡ l.initial.out.items ++ cuts_text l.spot.from l.counter l.spot.track l.spot.at;
}
