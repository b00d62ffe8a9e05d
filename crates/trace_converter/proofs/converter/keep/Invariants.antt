use Rattle.std.proofs.Common.{take}
use Rattle.trace_values.specs.ValueViews.{views}
use Rattle.dial9_trace_format.specs.ShownEvents.{shown_event}
use Rattle.trace_converter.specs.parts.Kept.{HasConverted}
use Rattle.trace_converter.proofs.converter.keep.Given as goal

abbrev pub invariant-loop-names : goal.invariant-loop-names
invariant-loop-names g l = record {
  so_far : HasConverted g.W.TraceWrite.told (shown_event l.event) (take l.names-index l.rule.fields.now) l.fn.encoder
      l.fields.items (views l.values.items) l.encoder;
}
