use Rattle.std.proofs.Common.{◌++◌, codes, refl, sym, arith}
use Rattle.std.specs.List.{join_by}
use Rattle.std.proofs.lemmas.Result.{err_from_is_err_and}
use Rattle.trace_values.proofs.ValueSizes.{falls_3, steps_3}
use Rattle.trace_lines.specs.Lines.{value_text}
use Rattle.trace_lines.proofs.Depths.{item_in, key_in, value_in, most_below, most_pair_below}
use Rattle.trace_lines.proofs.GrowingParts.{all_left, part_put, part_not_put, none_left}
use Rattle.trace_lines.proofs.JoinedLists.{joined_all, joined_first, joined_none}
use Rattle.trace_lines.proofs.ShownForms.{shown_as, text_of_shown_list, text_of_shown_map}
use Rattle.trace_lines.proofs.value.+value.Goals as goal

pub push_list-returns-in_err-put : goal.push_list-returns-in_err-put
push_list-returns-in_err-put g t c =
    let p = err_from_is_err_and c.from_residual.result c.from_residual.ensures.1 in
    let inside = join_by (λ v. value_text (shown_as c.args.form.now g.V.LineValue.value v)) (codes ",")
    c.args.items.now in
    rw (p.1, p.2) (part_not_put _ (codes "List:[") (inside ++ codes "]") _ g.met.L.GrowingLine.stops
    (all_left g.L.GrowingLine.grows c.args.out.now
    (sym (text_of_shown_list c.args.form.now g.V.LineValue.value c.args.items.now)))
    refl c.in_err-put.ensures)

pub push_list-returns-in_err-push_items : goal.push_list-returns-in_err-push_items
push_list-returns-in_err-push_items g t c =
    let given = c.from_residual-in_err-push_items in
    let p = err_from_is_err_and given.result given.ensures.1 in
    let inside = join_by (λ v. value_text (shown_as c.args.form.now g.V.LineValue.value v)) (codes ",")
    c.args.items.now in
    let all = all_left g.L.GrowingLine.grows c.args.out.now
    (sym (text_of_shown_list c.args.form.now g.V.LineValue.value c.args.items.now)) in
    let first = part_put _ (codes "List:[") (inside ++ codes "]") g.met.L.GrowingLine.joins all refl
    c.in_ok-put.ensures in
    rw (p.1, p.2) (part_not_put _ inside (codes "]") _ g.met.L.GrowingLine.stops first refl c.in_err-push_items.ensures)

pub push_list-returns : goal.push_list-returns
push_list-returns g t c =
    let joins = g.met.L.GrowingLine.joins in
    let inside = join_by (λ v. value_text (shown_as c.args.form.now g.V.LineValue.value v)) (codes ",")
    c.args.items.now in
    let all = all_left g.L.GrowingLine.grows c.args.out.now
    (sym (text_of_shown_list c.args.form.now g.V.LineValue.value c.args.items.now)) in
    let first = part_put _ (codes "List:[") (inside ++ codes "]") joins all refl c.in_ok-put.ensures in
    let second = part_put _ inside (codes "]") joins first refl c.in_ok-push_items.ensures in
    second.answers c.put-2.result c.put-2.new.self c.put-2.ensures

pub push_map-returns-in_err-put : goal.push_map-returns-in_err-put
push_map-returns-in_err-put g t c =
    let p = err_from_is_err_and c.from_residual.result c.from_residual.ensures.1 in
    let value = shown_as c.args.form.now g.V.LineValue.value in
    let inside = join_by (λ p. value_text (value p.0) ++ codes "=" ++ value_text (value p.1)) (codes ",")
    c.args.pairs.now in
    rw (p.1, p.2) (part_not_put _ (codes "Map:{") (inside ++ codes "}") _ g.met.L.GrowingLine.stops
    (all_left g.L.GrowingLine.grows c.args.out.now
    (sym (text_of_shown_map c.args.form.now g.V.LineValue.value c.args.pairs.now)))
    refl c.in_err-put.ensures)

pub push_map-returns-in_err-push_pairs : goal.push_map-returns-in_err-push_pairs
push_map-returns-in_err-push_pairs g t c =
    let given = c.from_residual-in_err-push_pairs in
    let p = err_from_is_err_and given.result given.ensures.1 in
    let value = shown_as c.args.form.now g.V.LineValue.value in
    let inside = join_by (λ p. value_text (value p.0) ++ codes "=" ++ value_text (value p.1)) (codes ",")
    c.args.pairs.now in
    let all = all_left g.L.GrowingLine.grows c.args.out.now
    (sym (text_of_shown_map c.args.form.now g.V.LineValue.value c.args.pairs.now)) in
    let first = part_put _ (codes "Map:{") (inside ++ codes "}") g.met.L.GrowingLine.joins all refl
    c.in_ok-put.ensures in
    rw (p.1, p.2) (part_not_put _ inside (codes "}") _ g.met.L.GrowingLine.stops first refl c.in_err-push_pairs.ensures)

pub push_map-returns : goal.push_map-returns
push_map-returns g t c =
    let joins = g.met.L.GrowingLine.joins in
    let value = shown_as c.args.form.now g.V.LineValue.value in
    let inside = join_by (λ p. value_text (value p.0) ++ codes "=" ++ value_text (value p.1)) (codes ",")
    c.args.pairs.now in
    let all = all_left g.L.GrowingLine.grows c.args.out.now
    (sym (text_of_shown_map c.args.form.now g.V.LineValue.value c.args.pairs.now)) in
    let first = part_put _ (codes "Map:{") (inside ++ codes "}") joins all refl c.in_ok-put.ensures in
    let second = part_put _ inside (codes "}") joins first refl c.in_ok-push_pairs.ensures in
    second.answers c.put-2.result c.put-2.new.self c.put-2.ensures

pub push_items-items-init : goal.push_items-items-init
push_items-items-init g t c =
    all_left g.L.GrowingLine.grows c.args.out.now
    (joined_all (λ v. value_text (shown_as c.args.form.now g.V.LineValue.value v)) c.args.items.now)

pub push_items-items-preserved : goal.push_items-items-preserved
push_items-items-preserved g t c =
    let shown = λ (v : g.row.V.Denot). value_text (shown_as c.args.form.now g.V.LineValue.value v) in
    let x = c.index-items-index in
    let joins = g.met.L.GrowingLine.joins in
    part_put _ _ _ joins c.items.invariant
    (joined_first shown c.args.items.now c.items.index x.result c.items-test.true x.is)
    (joins _ _ _ _ _ _ c.in_ok-put.ensures c.in_ok-push_line_value.ensures)

pub push_items-returns-in_err-put : goal.push_items-returns-in_err-put
push_items-returns-in_err-put g t c =
    let p = err_from_is_err_and c.from_residual.result c.from_residual.ensures.1 in
    let shown = λ (v : g.row.V.Denot). value_text (shown_as c.args.form.now g.V.LineValue.value v) in
    let x = c.index-items-index in
    let stops = g.met.L.GrowingLine.stops in
    rw (p.1, p.2) (part_not_put _ _ _ _ stops c.items.invariant
    (joined_first shown c.args.items.now c.items.index x.result c.items-test.true x.is)
    (stops _ _ _ _ _ c.in_err-put.ensures))

pub push_items-returns-in_err-push_line_value : goal.push_items-returns-in_err-push_line_value
push_items-returns-in_err-push_line_value g t c =
    let given = c.from_residual-in_err-push_line_value in
    let p = err_from_is_err_and given.result given.ensures.1 in
    let shown = λ (v : g.row.V.Denot). value_text (shown_as c.args.form.now g.V.LineValue.value v) in
    let x = c.index-items-index in
    rw (p.1, p.2) (part_not_put _ _ _ _ g.met.L.GrowingLine.stops c.items.invariant
    (joined_first shown c.args.items.now c.items.index x.result c.items-test.true x.is)
    (g.met.L.GrowingLine.joins _ _ _ _ _ _ c.in_ok-put.ensures c.in_err-push_line_value.ensures))

pub push_items-returns : goal.push_items-returns
push_items-returns g t c =
    none_left g.met.L.GrowingLine.empty c.items.invariant
    (joined_none (λ v. value_text (shown_as c.args.form.now g.V.LineValue.value v)) c.args.items.now c.items.index
    c.items-test.false)

pub push_pairs-pairs-init : goal.push_pairs-pairs-init
push_pairs-pairs-init g t c =
    let value = shown_as c.args.form.now g.V.LineValue.value in
    all_left g.L.GrowingLine.grows c.args.out.now
    (joined_all (λ p. value_text (value p.0) ++ codes "=" ++ value_text (value p.1)) c.args.pairs.now)

pub push_pairs-pairs-preserved : goal.push_pairs-pairs-preserved
push_pairs-pairs-preserved g t c =
    let value = shown_as c.args.form.now g.V.LineValue.value in
    let shown = λ (p : g.row.V.Denot × g.row.V.Denot). value_text (value p.0) ++ codes "=" ++ value_text (value p.1) in
    let x = c.index-pairs-index in
    let joins = g.met.L.GrowingLine.joins in
    let keyed = joins _ _ _ _ _ _ c.in-Ok-tri-2.ensures c.in-Ok-tri-3.ensures in
    let pair = joins _ _ _ _ _ _ keyed c.in-Ok-tri-4.ensures in
    part_put _ _ _ joins c.pairs.invariant
    (joined_first shown c.args.pairs.now c.pairs.index x.result c.pairs-test.true x.is)
    (joins _ _ _ _ _ _ c.in-Ok-tri.ensures pair)

pub push_pairs-returns-in-pairs : goal.push_pairs-returns-in-pairs
push_pairs-returns-in-pairs g t c =
    let value = shown_as c.args.form.now g.V.LineValue.value in
    let shown = λ (p : g.row.V.Denot × g.row.V.Denot). value_text (value p.0) ++ codes "=" ++ value_text (value p.1) in
    let x = c.index-pairs-index in
    let stops = g.met.L.GrowingLine.stops in
    part_not_put _ _ _ _ stops c.pairs.invariant
    (joined_first shown c.args.pairs.now c.pairs.index x.result c.pairs-test.true x.is)
    (stops _ _ _ _ _ c.in-Err-tri.ensures)

pub push_pairs-returns-in-pairs-2 : goal.push_pairs-returns-in-pairs-2
push_pairs-returns-in-pairs-2 g t c =
    let value = shown_as c.args.form.now g.V.LineValue.value in
    let shown = λ (p : g.row.V.Denot × g.row.V.Denot). value_text (value p.0) ++ codes "=" ++ value_text (value p.1) in
    let x = c.index-pairs-index in
    let stops = g.met.L.GrowingLine.stops in
    part_not_put _ _ _ _ stops c.pairs.invariant
    (joined_first shown c.args.pairs.now c.pairs.index x.result c.pairs-test.true x.is)
    (g.met.L.GrowingLine.joins _ _ _ _ _ _ c.in-Ok-tri.ensures
    (stops _ _ _ _ _ (stops _ _ _ _ _ c.in-Err-tri-2.ensures)))

pub push_pairs-returns-in-pairs-3 : goal.push_pairs-returns-in-pairs-3
push_pairs-returns-in-pairs-3 g t c =
    let value = shown_as c.args.form.now g.V.LineValue.value in
    let shown = λ (p : g.row.V.Denot × g.row.V.Denot). value_text (value p.0) ++ codes "=" ++ value_text (value p.1) in
    let x = c.index-pairs-index in
    let joins = g.met.L.GrowingLine.joins in
    let stops = g.met.L.GrowingLine.stops in
    part_not_put _ _ _ _ stops c.pairs.invariant
    (joined_first shown c.args.pairs.now c.pairs.index x.result c.pairs-test.true x.is)
    (joins _ _ _ _ _ _ c.in-Ok-tri.ensures
    (stops _ _ _ _ _ (joins _ _ _ _ _ _ c.in-Ok-tri-2.ensures c.in-Err-tri-3.ensures)))

pub push_pairs-returns-in-pairs-4 : goal.push_pairs-returns-in-pairs-4
push_pairs-returns-in-pairs-4 g t c =
    let value = shown_as c.args.form.now g.V.LineValue.value in
    let shown = λ (p : g.row.V.Denot × g.row.V.Denot). value_text (value p.0) ++ codes "=" ++ value_text (value p.1) in
    let x = c.index-pairs-index in
    let joins = g.met.L.GrowingLine.joins in
    let keyed = joins _ _ _ _ _ _ c.in-Ok-tri-2.ensures c.in-Ok-tri-3.ensures in
    part_not_put _ _ _ _ g.met.L.GrowingLine.stops c.pairs.invariant
    (joined_first shown c.args.pairs.now c.pairs.index x.result c.pairs-test.true x.is)
    (joins _ _ _ _ _ _ c.in-Ok-tri.ensures (joins _ _ _ _ _ _ keyed c.in-Err-tri-4.ensures))

pub push_pairs-returns : goal.push_pairs-returns
push_pairs-returns g t c =
    let value = shown_as c.args.form.now g.V.LineValue.value in
    none_left g.met.L.GrowingLine.empty c.pairs.invariant
    (joined_none (λ p. value_text (value p.0) ++ codes "=" ++ value_text (value p.1)) c.args.pairs.now c.pairs.index
    c.pairs-test.false)

-- ---- what is gone into next is less deep

pub push_line_value-push_list-requires : goal.push_line_value-push_list-requires
push_line_value-push_list-requires g t c κs within = (
  falls_3 _ _ 0 2 t c.decreases (most_below g.V.LineValue.depth c.in-Items.items.now _ c.in-Items.ensures.1)
      (omega arith),
  within,
)

pub push_line_value-push_map-requires : goal.push_line_value-push_map-requires
push_line_value-push_map-requires g t c κs within = (
  falls_3 _ _ 0 2 t c.decreases
      (most_pair_below g.V.LineValue.depth c.in-Pairs.pairs.now _ (c.in-Pairs.ensures.1, c.in-Pairs.ensures.2))
      (omega arith),
  within,
)

pub push_items-push_line_value-requires : goal.push_items-push_line_value-requires
push_items-push_line_value-requires g t c κs within =
    let x = c.index-items-index in (
      steps_3 _ _ 1 0 t c.decreases
          (item_in g.V.LineValue.depth c.args.items.now c.items.index x.result c.items-test.true x.is) (omega arith),
      within,
    )

pub push_pairs-push_line_value-requires : goal.push_pairs-push_line_value-requires
push_pairs-push_line_value-requires g t c κs within =
    let x = c.index-pairs-index in (
      steps_3 _ _ 1 0 t c.decreases
          (key_in g.V.LineValue.depth c.args.pairs.now c.pairs.index x.result c.pairs-test.true x.is) (omega arith),
      within,
    )

pub push_pairs-push_line_value-requires-in-pairs : goal.push_pairs-push_line_value-requires-in-pairs
push_pairs-push_line_value-requires-in-pairs g t c κs within =
    let x = c.index-pairs-index in (
      steps_3 _ _ 1 0 t c.decreases
          (value_in g.V.LineValue.depth c.args.pairs.now c.pairs.index x.result c.pairs-test.true x.is) (omega arith),
      within,
    )
