use Rattle.trace_chrome.proofs.FramesAsMembers.{frames_put}
use Rattle.trace_chrome.proofs.frames.put_frames.Goals as goal

pub returns-clause-tokens : goal.returns-clause-tokens
returns-clause-tokens c =
    frames_put c.end_object.result c.args.frames.now _ _ c.in_ok-begin_object.ensures.ok
    c.in_ok-put_members.ensures.tokens c.end_object.ensures.ok
