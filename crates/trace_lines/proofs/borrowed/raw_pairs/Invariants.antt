use Rattle.std.proofs.Common.{map}
use Rattle.trace_values.proofs.RawPairs.{IsLeft}
use Rattle.trace_lines.proofs.borrowed.raw_pairs.Given as goal

abbrev pub invariant-pairs : goal.invariant-pairs
invariant-pairs l = IsLeft l.pairs (map (λ p. (p.0.now, p.1.now)) l.raw.items) l.count l.counter l.rest
