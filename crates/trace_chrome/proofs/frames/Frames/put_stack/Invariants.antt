use Rattle.std.proofs.Common.{◌≡◌, drop}
use Rattle.trace_chrome.specs.Frames.{number_of_stack, with_stack}
use Rattle.trace_chrome.proofs.frames.Frames.put_stack.Given as goal

abbrev pub invariant-addresses : goal.invariant-addresses
invariant-addresses l = record {
  number : l.number ≡ number_of_stack (drop l.index l.stack) l.initial.self.all.keys;
  frames : l.self.all.keys ≡ with_stack (drop l.index l.stack) l.initial.self.all.keys;
}
