use Rattle.trace_values.specs.Reading.{text_pair_at}
use Rattle.trace_lines.specs.Lines.{pair_text}
use Rattle.trace_lines.proofs.SpelledParts.{ItemsLeft}
use Rattle.trace_lines.proofs.spelled.push_text_pairs_at.Given as goal

abbrev pub invariant-pairs : goal.invariant-pairs
invariant-pairs g l =
    ItemsLeft g.L.GrowingLine.grows text_pair_at pair_text l.count l.initial.out l.bytes l.index l.rest l.out
