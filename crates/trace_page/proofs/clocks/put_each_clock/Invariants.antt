use Rattle.std.proofs.Common.{◌≡◌, ◌++◌, take}
use Rattle.std.specs.List.{flat_map}
use Rattle.json.specs.Tree.{json_tokens}
use Rattle.trace_page.specs.Files.{clock_json}
use Rattle.trace_page.proofs.clocks.put_each_clock.Given as goal

abbrev pub invariant-clocks : goal.invariant-clocks
invariant-clocks l = record {
  tokens : l.out.tokens
      ≡ l.initial.out.tokens ++ flat_map (λ c. json_tokens (clock_json c)) (take l.clock-index l.clocks);
  before : l.out.before ≡ l.initial.out.before;
}
