use Rattle.std.proofs.Common.{◌≡◌, ℕ, List, ◌++◌}
use Rattle.std.specs.List.{flat_map}
use Rattle.json.specs.Tree.{json_tokens}
use Rattle.trace_json.specs.EventJson.{text_pair_json}
use Rattle.trace_values.proofs.RawPairs.{IsLeft}
use Rattle.trace_json.proofs.texts.put_pairs.Given as goal

abbrev pub invariant-pairs : goal.invariant-pairs
invariant-pairs l = record {
  front : List (List ℕ × List ℕ);
  left : IsLeft l.pairs front l.count l.counter l.rest;
  tokens : l.out.tokens ≡ l.initial.out.tokens ++ flat_map (λ p. json_tokens (text_pair_json p)) front;
  before : l.out.before ≡ l.initial.out.before;
}
