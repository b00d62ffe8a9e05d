use Rattle.std.proofs.Common.{◌≡◌, drop}
use Rattle.trace_values.specs.Refs.{ref_views}
use Rattle.trace_converter.specs.Rules.{field_named}
use Rattle.trace_converter.proofs.fields.field_of.Given as goal

abbrev pub invariant-loop-index : goal.invariant-loop-index
invariant-loop-index l = record {
  same : field_named l.name l.fields (ref_views l.values)
      ≡ field_named l.name (drop l.index l.fields) (ref_views (drop l.index l.values));
}
