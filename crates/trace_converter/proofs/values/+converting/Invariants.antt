use Rattle.dial9_trace_format.specs.ShownEvents.{shown_event}
use Rattle.trace_converter.proofs.ConvertedItemsAndPairs.{ConvertsFirstItems, ConvertsFirstPairs}
use Rattle.trace_converter.proofs.values.+converting.Given as goal

abbrev pub invariant-converted_items-loop-item : goal.invariant-converted_items-loop-item
invariant-converted_items-loop-item g l = record {
  so_far : ConvertsFirstItems g.W.TraceWrite.told (shown_event l.event).pools l.items l.item-index l.initial.encoder
      l.values.items l.encoder;
}

abbrev pub invariant-converted_pairs-loop-pair : goal.invariant-converted_pairs-loop-pair
invariant-converted_pairs-loop-pair g l = record {
  so_far : ConvertsFirstPairs g.W.TraceWrite.told (shown_event l.event).pools l.pairs l.pair-index l.initial.encoder
      l.values.items l.encoder;
}
