use Rattle.std.proofs.Common.{◌≡◌, ◌++◌, take}
use Rattle.std.specs.List.{flat_map}
use Rattle.json.specs.Json.{string}
use Rattle.json.specs.Tree.{json_tokens}
use Rattle.dial9_trace_format.specs.ShownEvents.{names_of}
use Rattle.trace_csv.proofs.manifest.put_each_name.Given as goal

abbrev pub invariant-fields : goal.invariant-fields
invariant-fields l = record {
  tokens : l.out.tokens ≡ l.initial.out.tokens
      ++ flat_map (λ name. json_tokens (string name)) (names_of (take l.field-index l.fields));
  before : l.out.before ≡ l.initial.out.before;
}
