use Rattle.std.proofs.Common.{◌≡◌, ◌++◌, map, take, string_bytes}
use Rattle.std.specs.List.{flat_map}
use Rattle.dial9_trace_format.specs.CompactFrames.{compact_entry_of}
use Rattle.trace_lines.specs.Lines.{string_entry_text}
use Rattle.trace_lines.proofs.lines.push_compact_strings_line.Given as goal

abbrev pub invariant-loop-entry : goal.invariant-loop-entry
invariant-loop-entry l =
    string_bytes l.out
    ≡ string_bytes l.initial.out ++ flat_map string_entry_text (map compact_entry_of (take l.entry-index l.entries))
