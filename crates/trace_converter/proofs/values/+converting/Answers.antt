use Rattle.std.proofs.Common.{inl, inr, refl, arith}
use Rattle.std.proofs.lemmas.Result.{err_from_is_err_and}
use Rattle.trace_values.specs.declared.types.field_value.FieldValue.{FieldValue}
use Rattle.trace_values.proofs.RefSizes.{key_ref_in, ref_in, value_holds_ref_pairs, value_holds_refs, value_ref_in}
use Rattle.trace_values.proofs.ValueSizes.{falls_2, steps_2}
use Rattle.dial9_trace_format.specs.ShownEvents.{shown_event}
use Rattle.trace_converter.proofs.ConvertedItemsAndPairs.{item_converted, item_stops, pair_converted, pair_stops}
use Rattle.trace_converter.proofs.ConvertedItemsAndPairs.{map_refused}
use Rattle.trace_converter.proofs.values.+converting.Goals as goal

pub converted-returns-in_err-pairs-in-Map-clause-refused : goal.converted-returns-in_err-pairs-in-Map-clause-refused
converted-returns-in_err-pairs-in-Map-clause-refused g t c =
    let failed = c.from_residual-in_err-pairs-in-Map in
    let p = err_from_is_err_and failed.result failed.ensures.1 in
    rw (p.1, p.2) ((map_refused g.W.TraceWrite.told (shown_event c.args.event.now).pools c.in-Map.pairs
    c.args.value.now _ c.args.encoder.now c.converted_pairs.new.encoder _)
    c.in-Map.is c.pairs_of.ensures c.in_err-pairs-in-Map.ensures.refused)

pub converted_items-returns-in_err-reserve-clause-refused : goal.converted_items-returns-in_err-reserve-clause-refused
converted_items-returns-in_err-reserve-clause-refused g t c =
    let l = c.loop-item in
    let p = err_from_is_err_and c.from_residual.result c.from_residual.ensures.1 in
    rw (p.1, p.2) ((item_stops g.W.TraceWrite.told (shown_event c.args.event.now).pools c.args.items.now l.item-index
    c.item-item.result l.values.items c.args.encoder.now l.encoder l.encoder _)
    c.loop-item-test.true c.item-item.is l.invariant.so_far (inl (refl, refl)))

pub converted_items-returns-in_err-value-clause-refused : goal.converted_items-returns-in_err-value-clause-refused
converted_items-returns-in_err-value-clause-refused g t c =
    let l = c.loop-item in
    let failed = c.from_residual-in_err-value in
    let p = err_from_is_err_and failed.result failed.ensures.1 in
    rw (p.1, p.2) ((item_stops g.W.TraceWrite.told (shown_event c.args.event.now).pools c.args.items.now l.item-index
    c.item-item.result l.values.items c.args.encoder.now l.encoder c.converted.new.encoder _)
    c.loop-item-test.true c.item-item.is l.invariant.so_far (inr c.in_err-value.ensures.refused))

pub converted_items-loop-item-preserved : goal.converted_items-loop-item-preserved
converted_items-loop-item-preserved g t c =
    let l = c.loop-item in
    let w = c.in_ok-value.value in
    record {
      so_far =
          ((item_converted g.W.TraceWrite.told (shown_event c.args.event.now).pools c.args.items.now l.item-index
          c.item-item.result l.values.items w c.reserve.new.self.items c.push_reserved.new.self.items)
          c.args.encoder.now l.encoder c.converted.new.encoder)
          c.loop-item-test.true c.item-item.is c.push_reserved.ensures.items c.in_ok-reserve.ensures.items
          l.invariant.so_far c.in_ok-value.ensures.converted;
    }

pub converted_pairs-returns-in_err-reserve-clause-refused : goal.converted_pairs-returns-in_err-reserve-clause-refused
converted_pairs-returns-in_err-reserve-clause-refused g t c =
    let l = c.loop-pair in
    let p = err_from_is_err_and c.from_residual.result c.from_residual.ensures.1 in
    rw (p.1, p.2) ((pair_stops g.W.TraceWrite.told (shown_event c.args.event.now).pools c.args.pairs.now l.pair-index
    c.pair-item.result l.values.items c.args.encoder.now l.encoder l.encoder _)
    c.loop-pair-test.true c.pair-item.is l.invariant.so_far (inl (refl, refl)))

pub converted_pairs-returns-in_err-key-clause-refused : goal.converted_pairs-returns-in_err-key-clause-refused
converted_pairs-returns-in_err-key-clause-refused g t c =
    let l = c.loop-pair in
    let failed = c.from_residual-in_err-key in
    let p = err_from_is_err_and failed.result failed.ensures.1 in
    rw (p.1, p.2) ((pair_stops g.W.TraceWrite.told (shown_event c.args.event.now).pools c.args.pairs.now l.pair-index
    c.pair-item.result l.values.items c.args.encoder.now l.encoder c.converted.new.encoder _)
    c.loop-pair-test.true c.pair-item.is l.invariant.so_far (inr (inl c.in_err-key.ensures.refused)))

pub converted_pairs-returns-in_err-value-clause-refused : goal.converted_pairs-returns-in_err-value-clause-refused
converted_pairs-returns-in_err-value-clause-refused g t c =
    let l = c.loop-pair in
    let failed = c.from_residual-in_err-value in
    let p = err_from_is_err_and failed.result failed.ensures.1 in
    rw (p.1, p.2) ((pair_stops g.W.TraceWrite.told (shown_event c.args.event.now).pools c.args.pairs.now l.pair-index
    c.pair-item.result l.values.items c.args.encoder.now l.encoder c.converted-in-loop-pair.new.encoder _)
    c.loop-pair-test.true c.pair-item.is l.invariant.so_far
    (inr (inr (_, c.converted.new.encoder, c.in_ok-key.ensures.converted, c.in_err-value.ensures.refused))))

pub converted_pairs-loop-pair-preserved : goal.converted_pairs-loop-pair-preserved
converted_pairs-loop-pair-preserved g t c =
    let l = c.loop-pair in
    let w : FieldValue × FieldValue = (c.in_ok-key.key, c.in_ok-value.value) in
    record {
      so_far =
          ((pair_converted g.W.TraceWrite.told (shown_event c.args.event.now).pools c.args.pairs.now l.pair-index
          c.pair-item.result l.values.items w c.reserve.new.self.items c.push_reserved.new.self.items)
          c.args.encoder.now l.encoder c.converted.new.encoder c.converted-in-loop-pair.new.encoder)
          c.loop-pair-test.true c.pair-item.is c.push_reserved.ensures.items c.in_ok-reserve.ensures.items
          l.invariant.so_far c.in_ok-key.ensures.converted c.in_ok-value.ensures.converted;
    }

-- ---- what is gone into next is smaller

pub converted-converted_items-requires : goal.converted-converted_items-requires
converted-converted_items-requires g t c κs within =
    let s = c.items_of in (
      falls_2 _ _ 0 1 t c.decreases (value_holds_refs c.args.value.now c.in-List.items s.result.now c.in-List.is
          s.ensures) (omega arith),
      within,
    )

pub converted-converted_pairs-requires : goal.converted-converted_pairs-requires
converted-converted_pairs-requires g t c κs within =
    let s = c.pairs_of in (
      falls_2 _ _ 0 1 t c.decreases (value_holds_ref_pairs c.args.value.now c.in-Map.pairs s.result.now c.in-Map.is
          s.ensures) (omega arith),
      within,
    )

pub converted_items-converted-requires : goal.converted_items-converted-requires
converted_items-converted-requires g t c κs within =
    let l = c.loop-item in (
      steps_2 _ _ 1 0 t c.decreases (ref_in c.args.items.now l.item-index c.item-item.result c.loop-item-test.true
          c.item-item.is) (omega arith),
      within,
    )

pub converted_pairs-converted-requires : goal.converted_pairs-converted-requires
converted_pairs-converted-requires g t c κs within =
    let l = c.loop-pair in (
      steps_2 _ _ 1 0 t c.decreases (key_ref_in c.args.pairs.now l.pair-index c.pair-item.result c.loop-pair-test.true
          c.pair-item.is) (omega arith),
      within,
    )

pub converted_pairs-converted-requires-in-loop-pair : goal.converted_pairs-converted-requires-in-loop-pair
converted_pairs-converted-requires-in-loop-pair g t c κs within =
    let l = c.loop-pair in (
      steps_2 _ _ 1 0 t c.decreases (value_ref_in c.args.pairs.now l.pair-index c.pair-item.result
          c.loop-pair-test.true c.pair-item.is) (omega arith),
      within,
    )
