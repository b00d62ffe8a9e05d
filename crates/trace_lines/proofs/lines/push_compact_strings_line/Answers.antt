use Rattle.std.proofs.Common.{string_bytes}
use Rattle.dial9_trace_format.specs.CompactFrames.{compact_entry_of}
use Rattle.trace_lines.specs.Lines.{string_entry_text}
use Rattle.trace_lines.proofs.AppendedParts.{nothing_put, seen_more}
use Rattle.trace_lines.proofs.lines.push_compact_strings_line.Goals as goal

pub loop-entry-init : goal.loop-entry-init
loop-entry-init c = nothing_put (string_bytes c.push_str.new.self)

pub loop-entry-preserved : goal.loop-entry-preserved
loop-entry-preserved c =
    seen_more string_entry_text compact_entry_of (string_bytes c.push_str.new.self) _ c.loop-entry.entry-index
    c.entry-item.result
    c.loop-entry-test.true c.entry-item.is c.loop-entry.invariant c.in_ok-push_compact_entry.ensures
