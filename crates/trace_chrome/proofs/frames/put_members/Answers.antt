use Rattle.std.proofs.Common.{rules}
use Rattle.trace_chrome.proofs.FramesAsMembers.{frame_put}
use Rattle.trace_chrome.proofs.frames.put_members.Goals as goal

pub frames-preserved : goal.frames-preserved
frames-preserved c = record {
  tokens = frame_put c.args.frames.now c.frames.index _ c.args.out.now.tokens c.frames-test.true (search rules)
      c.frames.invariant.tokens c.in_ok-put_member.ensures.tokens;
  before = search rules;
}
