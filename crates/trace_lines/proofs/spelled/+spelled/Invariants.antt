use Rattle.std.proofs.Common.{◌+◌, ◌*◌}
use Rattle.trace_values.specs.Reading.{item_at, pair_at, value_at}
use Rattle.trace_values.specs.Values.{owned_reader}
use Rattle.trace_lines.specs.Lines.{value_text}
use Rattle.trace_lines.specs.parts.SpelledLines.{pair_value_text}
use Rattle.trace_lines.proofs.SpelledParts.{ItemsLeft}
use Rattle.trace_lines.proofs.spelled.+spelled.Given as goal

abbrev pub decreases-push_value_at : goal.decreases-push_value_at
decreases-push_value_at g l = 5 * l.levels + 0

abbrev pub decreases-push_item_at : goal.decreases-push_item_at
decreases-push_item_at g l = 5 * l.levels + 1

abbrev pub decreases-push_pair_at : goal.decreases-push_pair_at
decreases-push_pair_at g l = 5 * l.levels + 2

abbrev pub decreases-push_items_at : goal.decreases-push_items_at
decreases-push_items_at g l = 5 * l.levels + 3

abbrev pub decreases-push_pairs_at : goal.decreases-push_pairs_at
decreases-push_pairs_at g l = 5 * l.levels + 3

abbrev pub decreases-push_list_at : goal.decreases-push_list_at
decreases-push_list_at g l = 5 * l.levels + 4

abbrev pub decreases-push_map_at : goal.decreases-push_map_at
decreases-push_map_at g l = 5 * l.levels + 4

abbrev pub invariant-push_items_at-items : goal.invariant-push_items_at-items
invariant-push_items_at-items g l =
    ItemsLeft g.L.GrowingLine.grows (item_at (value_at owned_reader l.levels)) value_text l.count l.initial.out l.bytes
    l.index l.rest l.out

abbrev pub invariant-push_pairs_at-pairs : goal.invariant-push_pairs_at-pairs
invariant-push_pairs_at-pairs g l =
    ItemsLeft g.L.GrowingLine.grows (pair_at (value_at owned_reader l.levels)) pair_value_text l.count l.initial.out
    l.bytes l.index l.rest l.out
