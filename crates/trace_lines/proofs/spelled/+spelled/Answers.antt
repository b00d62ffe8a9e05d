use Rattle.std.proofs.Common.{◌-◌, ◌≡◌, ◌∙◌, suc, ap, arith, sym}
use Rattle.std.proofs.lemmas.Result.{err_from_is_err_and}
use Rattle.trace_values.specs.FieldTypes.{inner}
use Rattle.trace_values.specs.Reading.{item_at, pair_at, value_at}
use Rattle.trace_values.specs.Values.{owned_reader}
use Rattle.trace_lines.specs.Lines.{value_text}
use Rattle.trace_lines.specs.parts.SpelledLines.{pair_value_text}
use Rattle.trace_lines.proofs.SpelledParts.{closed, equals_not_put, inner_inner, item_by, items_begin, items_end}
use Rattle.trace_lines.proofs.SpelledParts.{items_go_on, items_stop, items_stop_first, key_not_put, list_read}
use Rattle.trace_lines.proofs.SpelledParts.{list_shown, map_read, map_shown, not_closed, not_filled, not_opened}
use Rattle.trace_lines.proofs.SpelledParts.{of_list, of_map, pair_put, plain_at_level, puts_refused, puts_same}
use Rattle.trace_lines.proofs.SpelledParts.{front_byte, texts_by, value_by}
use Rattle.trace_lines.proofs.spelled.+spelled.Goals as goal

-- ---- items and pairs

pub push_item_at-returns-in-empty : goal.push_item_at-returns-in-empty
push_item_at-returns-in-empty g t c = puts_refused _ _ c.refusal.ensures

pub push_item_at-returns-in-None : goal.push_item_at-returns-in-None
push_item_at-returns-in-None g t c = puts_refused _ _ c.refusal-in-None.ensures

pub push_item_at-returns-in-Some : goal.push_item_at-returns-in-Some
push_item_at-returns-in-Some g t c =
    puts_same (item_by (value_at owned_reader c.args.levels) c.args.bytes.now _ _ _
    (front_byte c.args.bytes.now c.in-len1-up.len_at_least) (sym c.type_with_tag.ensures ∙ c.in-Some.is))
    c.push_value_at.ensures

pub push_pair_at-returns-in_err-rest : goal.push_pair_at-returns-in_err-rest
push_pair_at-returns-in_err-rest g t c =
    let p = err_from_is_err_and c.from_residual.result c.from_residual.ensures.1 in
    rw (p.1, p.2) (key_not_put (value_at owned_reader c.args.levels) c.args.bytes.now _ _ g.met.L.GrowingLine.stops
    c.in_err-rest.ensures)

pub push_pair_at-returns-in_err-put : goal.push_pair_at-returns-in_err-put
push_pair_at-returns-in_err-put g t c =
    let given = c.from_residual-in_err-put in
    let p = err_from_is_err_and given.result given.ensures.1 in
    rw (p.1, p.2) (equals_not_put (value_at owned_reader c.args.levels) c.args.bytes.now _ _ _ g.met.L.GrowingLine.joins
    g.met.L.GrowingLine.stops c.in_ok-rest.ensures c.in_err-put.ensures)

pub push_pair_at-returns : goal.push_pair_at-returns
push_pair_at-returns g t c =
    pair_put (value_at owned_reader c.args.levels) c.args.bytes.now _ _ _ g.met.L.GrowingLine.joins
    c.in_ok-rest.ensures c.in_ok-put.ensures c.push_item_at-2.ensures

pub push_items_at-items-init : goal.push_items_at-items-init
push_items_at-items-init g t c =
    items_begin g.L.GrowingLine.grows (item_at (value_at owned_reader c.args.levels)) value_text c.args.count
    c.args.out.now c.args.bytes.now

pub push_items_at-items-preserved : goal.push_items_at-items-preserved
push_items_at-items-preserved g t c =
    items_go_on (item_at (value_at owned_reader c.args.levels)) g.met.L.GrowingLine.joins c.items-test.true
    c.items.invariant c.in_ok-put.ensures c.in_ok-rest.ensures

pub push_items_at-returns-in_err-put : goal.push_items_at-returns-in_err-put
push_items_at-returns-in_err-put g t c =
    let p = err_from_is_err_and c.from_residual.result c.from_residual.ensures.1 in
    rw (p.1, p.2) (items_stop_first (item_at (value_at owned_reader c.args.levels)) g.met.L.GrowingLine.stops
    c.items-test.true
    c.items.invariant c.in_err-put.ensures)

pub push_items_at-returns-in_err-rest : goal.push_items_at-returns-in_err-rest
push_items_at-returns-in_err-rest g t c =
    let given = c.from_residual-in_err-rest in
    let p = err_from_is_err_and given.result given.ensures.1 in
    rw (p.1, p.2) (items_stop (item_at (value_at owned_reader c.args.levels)) g.met.L.GrowingLine.joins
    g.met.L.GrowingLine.stops
    c.items-test.true c.items.invariant c.in_ok-put.ensures c.in_err-rest.ensures)

pub push_items_at-returns : goal.push_items_at-returns
push_items_at-returns g t c =
    items_end (item_at (value_at owned_reader c.args.levels)) c.args.count c.items.index c.args.bytes.now
    c.items.rest _ g.met.L.GrowingLine.empty c.items-test.false c.items.invariant

pub push_pairs_at-pairs-init : goal.push_pairs_at-pairs-init
push_pairs_at-pairs-init g t c =
    items_begin g.L.GrowingLine.grows (pair_at (value_at owned_reader c.args.levels)) pair_value_text c.args.count
    c.args.out.now c.args.bytes.now

pub push_pairs_at-pairs-preserved : goal.push_pairs_at-pairs-preserved
push_pairs_at-pairs-preserved g t c =
    items_go_on (pair_at (value_at owned_reader c.args.levels)) g.met.L.GrowingLine.joins c.pairs-test.true
    c.pairs.invariant c.in_ok-put.ensures c.in_ok-rest.ensures

pub push_pairs_at-returns-in_err-put : goal.push_pairs_at-returns-in_err-put
push_pairs_at-returns-in_err-put g t c =
    let p = err_from_is_err_and c.from_residual.result c.from_residual.ensures.1 in
    rw (p.1, p.2) (items_stop_first (pair_at (value_at owned_reader c.args.levels)) g.met.L.GrowingLine.stops
    c.pairs-test.true
    c.pairs.invariant c.in_err-put.ensures)

pub push_pairs_at-returns-in_err-rest : goal.push_pairs_at-returns-in_err-rest
push_pairs_at-returns-in_err-rest g t c =
    let given = c.from_residual-in_err-rest in
    let p = err_from_is_err_and given.result given.ensures.1 in
    rw (p.1, p.2) (items_stop (pair_at (value_at owned_reader c.args.levels)) g.met.L.GrowingLine.joins
    g.met.L.GrowingLine.stops
    c.pairs-test.true c.pairs.invariant c.in_ok-put.ensures c.in_err-rest.ensures)

pub push_pairs_at-returns : goal.push_pairs_at-returns
push_pairs_at-returns g t c =
    items_end (pair_at (value_at owned_reader c.args.levels)) c.args.count c.pairs.index c.args.bytes.now
    c.pairs.rest _ g.met.L.GrowingLine.empty c.pairs-test.false c.pairs.invariant

-- ---- lists and maps

pub push_list_at-returns-in_default : goal.push_list_at-returns-in_default
push_list_at-returns-in_default g t c = puts_refused _ _ c.refusal.ensures

pub push_list_at-returns : goal.push_list_at-returns
push_list_at-returns g t c =
    puts_same
    (list_read (value_at owned_reader c.args.levels) c.args.bytes.now _ _ c.in-Ok.ensures)
    (not_opened of_list _ _ _ list_shown g.met.L.GrowingLine.stops c.in-Err-tri.ensures)

pub push_list_at-returns-2 : goal.push_list_at-returns-2
push_list_at-returns-2 g t c =
    puts_same
    (list_read (value_at owned_reader c.args.levels) c.args.bytes.now _ _ c.in-Ok.ensures)
    (not_filled of_list _ _ _ list_shown g.met.L.GrowingLine.joins g.met.L.GrowingLine.stops c.in-Ok-tri.ensures
    c.in-Err-tri-rest.ensures)

pub push_list_at-returns-3 : goal.push_list_at-returns-3
push_list_at-returns-3 g t c =
    puts_same
    (list_read (value_at owned_reader c.args.levels) c.args.bytes.now _ _ c.in-Ok.ensures)
    (not_closed of_list _ _ _ _ list_shown g.met.L.GrowingLine.joins c.in-Ok-tri.ensures c.in-Ok-tri-rest.ensures
    c.in-Err-tri-2.ensures)

pub push_list_at-returns-4 : goal.push_list_at-returns-4
push_list_at-returns-4 g t c =
    puts_same
    (list_read (value_at owned_reader c.args.levels) c.args.bytes.now _ _ c.in-Ok.ensures)
    (closed of_list _ _ _ list_shown g.met.L.GrowingLine.joins c.in-Ok-tri.ensures c.in-Ok-tri-rest.ensures
    c.in-Ok-tri-2.ensures)

pub push_map_at-returns-in_default : goal.push_map_at-returns-in_default
push_map_at-returns-in_default g t c = puts_refused _ _ c.refusal.ensures

pub push_map_at-returns : goal.push_map_at-returns
push_map_at-returns g t c =
    puts_same
    (map_read (value_at owned_reader c.args.levels) c.args.bytes.now _ _ c.in-Ok.ensures)
    (not_opened of_map _ _ _ map_shown g.met.L.GrowingLine.stops c.in-Err-tri.ensures)

pub push_map_at-returns-2 : goal.push_map_at-returns-2
push_map_at-returns-2 g t c =
    puts_same
    (map_read (value_at owned_reader c.args.levels) c.args.bytes.now _ _ c.in-Ok.ensures)
    (not_filled of_map _ _ _ map_shown g.met.L.GrowingLine.joins g.met.L.GrowingLine.stops c.in-Ok-tri.ensures
    c.in-Err-tri-rest.ensures)

pub push_map_at-returns-3 : goal.push_map_at-returns-3
push_map_at-returns-3 g t c =
    puts_same
    (map_read (value_at owned_reader c.args.levels) c.args.bytes.now _ _ c.in-Ok.ensures)
    (not_closed of_map _ _ _ _ map_shown g.met.L.GrowingLine.joins c.in-Ok-tri.ensures c.in-Ok-tri-rest.ensures
    c.in-Err-tri-2.ensures)

pub push_map_at-returns-4 : goal.push_map_at-returns-4
push_map_at-returns-4 g t c =
    puts_same
    (map_read (value_at owned_reader c.args.levels) c.args.bytes.now _ _ c.in-Ok.ensures)
    (closed of_map _ _ _ map_shown g.met.L.GrowingLine.joins c.in-Ok-tri.ensures c.in-Ok-tri-rest.ensures
    c.in-Ok-tri-2.ensures)

-- ---- a value

pub push_value_at-returns-then-levels-eq0 : goal.push_value_at-returns-then-levels-eq0
push_value_at-returns-then-levels-eq0 g t c = puts_refused _ _ c.refusal.ensures

pub push_value_at-returns-in-DynamicList : goal.push_value_at-returns-in-DynamicList
push_value_at-returns-in-DynamicList g t c =
    let more : c.args.levels ≡ suc (c.args.levels - 1) = omega (arith, c.if-levels-eq0.false) in
    puts_same
    (value_by c.args.levels (c.args.levels - 1) c.args.field_type _ c.args.bytes.now more
    (sym c.inner.ensures ∙ c.in-DynamicList.is)) c.push_list_at.ensures

pub push_value_at-returns-in-DynamicMap : goal.push_value_at-returns-in-DynamicMap
push_value_at-returns-in-DynamicMap g t c =
    let more : c.args.levels ≡ suc (c.args.levels - 1) = omega (arith, c.if-levels-eq0.false) in
    puts_same
    (value_by c.args.levels (c.args.levels - 1) c.args.field_type _ c.args.bytes.now more
    (sym c.inner.ensures ∙ c.in-DynamicMap.is)) c.push_map_at.ensures

pub push_value_at-returns-in-StringMap : goal.push_value_at-returns-in-StringMap
push_value_at-returns-in-StringMap g t c =
    let more : c.args.levels ≡ suc (c.args.levels - 1) = omega (arith, c.if-levels-eq0.false) in
    puts_same (texts_by c.args.levels (c.args.levels - 1) c.args.field_type c.args.bytes.now more
    (sym c.inner.ensures ∙ c.in-StringMap.is)) c.push_texts_at.ensures

pub push_value_at-returns-in_default : goal.push_value_at-returns-in_default
push_value_at-returns-in_default g t c =
    let more : c.args.levels ≡ suc (c.args.levels - 1) = omega (arith, c.if-levels-eq0.false) in
    let plain = c.inner.result in
    let same = ap inner c.inner.ensures ∙ inner_inner c.args.field_type ∙ sym c.inner.ensures in
    puts_same
    (plain_at_level c.args.levels (c.args.levels - 1) c.args.field_type plain c.args.bytes.now more
    (sym c.inner.ensures) same c.in_default.not-DynamicList c.in_default.not-DynamicMap) c.push_plain_at.ensures
