use Rattle.std.proofs.Common.{◌≡◌, ◌++◌, take, string_bytes, codes}
use Rattle.std.specs.List.{join_by}
use Rattle.trace_lines.specs.Lines.{pair_text}
use Rattle.trace_lines.proofs.text_maps.push_text_pairs.Given as goal

abbrev pub invariant-pairs : goal.invariant-pairs
invariant-pairs g l =
    string_bytes l.out
    ≡ string_bytes l.initial.out ++ join_by (λ p. pair_text (g.P.TextPair.texts p)) (codes ",")
    (take l.index l.pairs)
