use Rattle.std.proofs.Common.{◌++◌, codes}
use Rattle.trace_chrome.specs.Entries.{quoted}
use Rattle.trace_chrome.proofs.Appending.{two_appended}
use Rattle.trace_chrome.proofs.entries.push_naming.Goals as goal

pub returns : goal.returns
returns c =
    two_appended c.push_last_name.result c.args.out.now.items
    (codes ",\"name\":\"thread_name\",\"args\":{\"name\":")
    (quoted c.args.name.now ++ codes "}}") _ c.in_ok-extend_from_slice.ensures.items c.push_last_name.ensures
