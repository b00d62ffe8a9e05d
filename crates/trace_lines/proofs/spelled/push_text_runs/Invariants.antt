use Rattle.std.proofs.Common.{length}
use Rattle.trace_values.specs.Values.{text}
use Rattle.trace_lines.specs.Lines.{value_text}
use Rattle.trace_lines.proofs.GrowingParts.{IsLeft}
use Rattle.trace_lines.proofs.TextRuns.{text_left}
use Rattle.trace_lines.proofs.spelled.push_text_runs.Given as goal

abbrev pub invariant-runs : goal.invariant-runs
invariant-runs g l =
    IsLeft g.L.GrowingLine.grows l.fn.out (value_text (text l.characters)) l.out (text_left l.rest)

abbrev pub decreases-runs : goal.decreases-runs
decreases-runs g l = length l.rest
