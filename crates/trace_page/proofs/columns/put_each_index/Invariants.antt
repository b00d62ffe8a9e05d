use Rattle.std.proofs.Common.{◌≡◌, ◌++◌, take}
use Rattle.std.specs.List.{flat_map}
use Rattle.json.specs.Tree.{json_tokens}
use Rattle.trace_page.specs.PageValues.{index_json}
use Rattle.trace_page.proofs.columns.put_each_index.Given as goal

abbrev pub invariant-loop-index : goal.invariant-loop-index
invariant-loop-index l = record {
  tokens : l.out.tokens
      ≡ l.initial.out.tokens ++ flat_map (λ i. json_tokens (index_json i)) (take l.index-index l.indexes);
  before : l.out.before ≡ l.initial.out.before;
}
