use Rattle.std.proofs.Common.{◌++◌, codes}
use Rattle.trace_chrome.proofs.Appending.{two_appended, when_ok}
use Rattle.trace_chrome.proofs.entries.push_frames.Goals as goal

pub returns : goal.returns
returns c =
    let r = c.extend_from_slice-3.result in
    let frames = c.args.frames.now in
    two_appended r c.args.out.now.items (codes ",\"stackFrames\":") (frames ++ codes "}\n") _
    c.in_ok-extend_from_slice.ensures.items
    (two_appended r _ frames (codes "}\n") _ c.in_ok-extend_from_slice-2.ensures.items
    (when_ok r _ _ _ c.extend_from_slice-3.ensures.items))
