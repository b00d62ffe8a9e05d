use Rattle.std.proofs.Common.{◌≡◌, string_bytes}
use Rattle.gotymbe_plan.proofs.LinesOfFields.{with_lines}
use Rattle.gotymbe_plan.proofs.statistics.push_fields.Given as goal

abbrev pub invariant-pairs : goal.invariant-pairs
invariant-pairs l = string_bytes l.out ≡ with_lines (string_bytes l.initial.out) l.index l.fields l.stats
