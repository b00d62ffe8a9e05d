use Rattle.std.proofs.Common.{◌≡◌, ◌++◌, take}
use Rattle.std.specs.List.{flat_map}
use Rattle.trace_json.specs.parts.Put.{member_tokens}
use Rattle.trace_chrome.specs.Frames.{frame_members}
use Rattle.trace_chrome.proofs.frames.put_members.Given as goal

abbrev pub invariant-frames : goal.invariant-frames
invariant-frames l = record {
  tokens : l.out.tokens ≡ l.initial.out.tokens ++ flat_map member_tokens (frame_members 1 (take l.index l.frames));
  before : l.out.before ≡ l.initial.out.before;
}
