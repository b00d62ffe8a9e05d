use Rattle.std.proofs.Common.{◌≡◌, ◌++◌, take}
use Rattle.std.specs.List.{flat_map}
use Rattle.json.specs.Tree.{json_tokens}
use Rattle.trace_values.specs.ValueViews.{text_pairs_view}
use Rattle.trace_json.specs.EventJson.{text_pair_json}
use Rattle.trace_json.proofs.texts.put_owned_pairs.Given as goal

abbrev pub invariant-pairs : goal.invariant-pairs
invariant-pairs l = record {
  tokens : l.out.tokens ≡ l.initial.out.tokens
      ++ flat_map (λ p. json_tokens (text_pair_json p)) (text_pairs_view (take l.pair-index l.pairs));
  before : l.out.before ≡ l.initial.out.before;
}
