use Rattle.std.proofs.Common.{◌+◌, ◌*◌, ◌++◌, drop, codes}
use Rattle.std.specs.List.{join_by}
use denote.Param.Weighed.{most}
use Rattle.trace_lines.specs.Lines.{value_text}
use Rattle.trace_lines.proofs.ShownForms.{shown_as}
use Rattle.trace_lines.proofs.GrowingParts.{IsLeft}
use Rattle.trace_lines.proofs.JoinedLists.{joined_left}
use Rattle.trace_lines.proofs.Depths.{pair_depth}
use Rattle.trace_lines.proofs.value.+value.Given as goal

abbrev pub decreases-push_line_value : goal.decreases-push_line_value
decreases-push_line_value g l = 3 * g.V.LineValue.depth l.value.now + 0

abbrev pub decreases-push_list : goal.decreases-push_list
decreases-push_list g l = 3 * most g.V.LineValue.depth l.items.now + 2

abbrev pub decreases-push_map : goal.decreases-push_map
decreases-push_map g l = 3 * most (pair_depth g.V.LineValue.depth) l.pairs.now + 2

abbrev pub decreases-push_items : goal.decreases-push_items
decreases-push_items g l = 3 * most g.V.LineValue.depth l.items.now + 1

abbrev pub decreases-push_pairs : goal.decreases-push_pairs
decreases-push_pairs g l = 3 * most (pair_depth g.V.LineValue.depth) l.pairs.now + 1

abbrev pub invariant-push_items-items : goal.invariant-push_items-items
invariant-push_items-items g l =
    let shown = λ (v : g.row.V.Denot). value_text (shown_as l.form g.V.LineValue.value v) in
    IsLeft g.L.GrowingLine.grows l.initial.out (join_by shown (codes ",") l.items) l.out
    (joined_left shown l.index (drop l.index l.items))

abbrev pub invariant-push_pairs-pairs : goal.invariant-push_pairs-pairs
invariant-push_pairs-pairs g l =
    let value = shown_as l.form g.V.LineValue.value in
    let shown = λ (p : g.row.V.Denot × g.row.V.Denot). value_text (value p.0) ++ codes "=" ++ value_text (value p.1) in
    IsLeft g.L.GrowingLine.grows l.initial.out (join_by shown (codes ",") l.pairs) l.out
    (joined_left shown l.index (drop l.index l.pairs))
