use Rattle.std.proofs.Common.{◌≡◌, ◌++◌, take}
use Rattle.std.specs.List.{flat_map}
use Rattle.json.specs.Tree.{json_tokens}
use Rattle.trace_page.specs.PageValues.{time_json}
use Rattle.trace_page.proofs.columns.put_each_time.Given as goal

abbrev pub invariant-loop-time : goal.invariant-loop-time
invariant-loop-time l = record {
  tokens : l.out.tokens
      ≡ l.initial.out.tokens ++ flat_map (λ t. json_tokens (time_json l.start t)) (take l.time-index l.times);
  before : l.out.before ≡ l.initial.out.before;
}
