use Rattle.std.proofs.Common.{◌≡◌, ◌++◌, take}
use Rattle.std.specs.List.{flat_map}
use Rattle.json.specs.Tree.{json_tokens}
use Rattle.std.specs.Prelude.{string_bytes}
use Rattle.json.specs.Json.{string}
use Rattle.trace_page.proofs.columns.put_each_string.Given as goal

abbrev pub invariant-loop-text : goal.invariant-loop-text
invariant-loop-text l = record {
  tokens : l.out.tokens
      ≡ l.initial.out.tokens ++ flat_map (λ s. json_tokens (string (string_bytes s))) (take l.text-index l.strings);
  before : l.out.before ≡ l.initial.out.before;
}
