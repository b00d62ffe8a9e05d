use Rattle.std.proofs.Common.{◌≡◌, take, map as list_map}
use Rattle.json.specs.Tree.{json_tokens}
use Rattle.dial9_trace_format.specs.parts.Resolving.{as_pools}
use Rattle.trace_json.specs.parts.Put.{StandAll}
use Rattle.trace_page.specs.Holding.{tables_of}
use Rattle.trace_page.specs.PageValues.{ArePageValues}
use Rattle.trace_page.specs.parts.Writing.{Grows}
use Rattle.trace_page.proofs.values.put_values.Given as goal

abbrev pub invariant-values : goal.invariant-values
invariant-values g l = record {
  tokens : StandAll json_tokens
      (ArePageValues (tables_of l.names) (as_pools l.strings l.stacks)
      (list_map g.V.TraceValue.value (take l.value-index l.values))) l.initial.out.tokens l.out.tokens;
  grown : Grows (tables_of l.initial.names) (tables_of l.names);
  before : l.out.before ≡ l.initial.out.before;
}
