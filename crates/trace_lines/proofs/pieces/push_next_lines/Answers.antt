use Rattle.std.proofs.Common.{◌∙◌, Ok, ap, string_bytes}
use Rattle.dial9_trace_format.specs.CompactFrames.{compact_item_of}
use Rattle.dial9_trace_format.specs.DecodedFrames.{next_as}
use Rattle.trace_lines.specs.parts.PieceDumps.{AreNextLines}
use Rattle.trace_lines.specs.declared.pieces.Next.TheVariants.{Wait}
use Rattle.trace_lines.proofs.PulledLines.{first_as, next_ok, on_ok, pulls_count, stuck_ok, was_ok}
use Rattle.trace_lines.proofs.pieces.push_next_lines.Goals as goal

pub returns-in-Wait-clause-lines : goal.returns-in-Wait-clause-lines
returns-in-Wait-clause-lines c =
    let old = c.args.decoder.now.state in
    let new = c.next_compact-frame.new.self.state in
    let first = string_bytes c.push_first_part.new.line in
    let lines = string_bytes c.push_pulled_line.new.line in
    let come = next_ok old new (next_as compact_item_of c.next_compact-frame.result) first lines
    c.push_pulled_line.result c.requires.fed c.next_compact-frame.ensures.pulls
    (first_as c.version-before.result old.version c.version.result new.version (string_bytes c.args.line.now) first
    c.version-before.ensures c.version.ensures c.requires.empty c.in_ok-push_first_part.ensures)
    c.push_pulled_line.ensures in
    let waits : AreNextLines old new lines Wait =
    was_ok (AreNextLines old new lines) c.push_pulled_line.result Wait (c.in_ok-next.was ∙ ap Ok c.in-Wait.is) come in
    stuck_ok old new lines (string_bytes c.push_stuck_line.new.line) c.push_stuck_line.result waits
    c.push_stuck_line.ensures

pub returns-in_default-clause-lines : goal.returns-in_default-clause-lines
returns-in_default-clause-lines c =
    let old = c.args.decoder.now.state in
    let new = c.next_compact-frame.new.self.state in
    let first = string_bytes c.push_first_part.new.line in
    let lines = string_bytes c.push_pulled_line.new.line in
    let come = next_ok old new (next_as compact_item_of c.next_compact-frame.result) first lines
    c.push_pulled_line.result c.requires.fed c.next_compact-frame.ensures.pulls
    (first_as c.version-before.result old.version c.version.result new.version (string_bytes c.args.line.now) first
    c.version-before.ensures c.version.ensures c.requires.empty c.in_ok-push_first_part.ensures)
    c.push_pulled_line.ensures in
    was_ok (AreNextLines old new lines) c.push_pulled_line.result _ c.in_ok-next.was come

pub returns-in-Wait-clause-same : goal.returns-in-Wait-clause-same
returns-in-Wait-clause-same c = on_ok c.push_stuck_line.result (pulls_count c.next_compact-frame.ensures.pulls)

pub returns-in_default-clause-same : goal.returns-in_default-clause-same
returns-in_default-clause-same c = pulls_count c.next_compact-frame.ensures.pulls
