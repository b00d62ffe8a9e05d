use Rattle.std.proofs.Common.{◌≡◌, ◌++◌, length, string_bytes}
use Rattle.std.specs.List.{flat_map}
use Rattle.trace_lines.specs.Lines.{quoted_byte}
use Rattle.trace_lines.proofs.text.push_runs.Given as goal

abbrev pub invariant-runs : goal.invariant-runs
invariant-runs l =
    string_bytes l.out ++ flat_map quoted_byte l.rest
    ≡ string_bytes l.initial.out ++ flat_map quoted_byte l.bytes

abbrev pub decreases-runs : goal.decreases-runs
decreases-runs l = length l.rest
