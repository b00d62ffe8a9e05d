use Rattle.std.proofs.Common.{◌<◌, ◌≤◌, length, rules}
use Rattle.trace_chrome.proofs.FramesAsMembers.{one_put}
use Rattle.trace_chrome.proofs.frames.Frames.put_stack.Goals as goal

pub addresses-preserved : goal.addresses-preserved
addresses-preserved c =
    let i = c.addresses.index in
    let stack = c.args.stack.now in
    let some : 0 < i = search rules in
    let within : i ≤ length stack = search rules in
    let put = c.in_ok-number.ensures in
    let both = one_put stack i c.args.self.now.all.keys some within c.addresses.invariant.number
    c.addresses.invariant.frames put.number put.frames in
    record { number = both.0; frames = both.1 }
