use Rattle.std.proofs.Common.{◌≡◌, ◌++◌, map as list_map}
use Rattle.trace_values.specs.RawViews.{texts_left}
use Rattle.trace_lines.proofs.borrowed.text_front.Given as goal

abbrev pub invariant-loop-pair : goal.invariant-loop-pair
invariant-loop-pair l =
    goal.iterator-loop-pair.can_next l.pair-iterator ×
    goal.iterator-loop-pair.is_finite l.pair-iterator ×
    (list_map (λ p. (p.0.now, p.1.now)) l.texts.items ++ texts_left l.pair-iterator
    ≡ texts_left l.initial.pair-iterator)
