use Rattle.std.proofs.Common.{◌≡◌, take, drop, map as list_map}
use Rattle.dial9_trace_format.specs.parts.Resolving.{as_pools}
use Rattle.dial9_trace_format.specs.ShownEvents.{names_of}
use Rattle.trace_json.specs.EventJson.{AreFieldsJson}
use Rattle.trace_json.specs.parts.Growing.{GrowsAll}
use Rattle.trace_json.specs.parts.Put.{member_tokens}
use Rattle.trace_json.proofs.fields.put_fields.Given as goal

abbrev pub invariant-fields : goal.invariant-fields
invariant-fields g l = record {
  names : names_of l.names ≡ drop l.value-index (names_of l.event.schema.now.fields);
  grown : GrowsAll g.L.GrowingJson.grows member_tokens
      (AreFieldsJson (as_pools l.event.string_pool.now l.event.stack_pool.now) (names_of l.event.schema.now.fields)
      (list_map g.V.TraceValue.value (take l.value-index l.event.values.now))) l.initial.out l.out;
}
