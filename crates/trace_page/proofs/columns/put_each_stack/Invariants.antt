use Rattle.std.proofs.Common.{◌≡◌, take, map as list_map}
use Rattle.std.specs.List.{AllZip}
use Rattle.json.specs.Tree.{json_tokens}
use Rattle.trace_json.specs.parts.Put.{StandAll}
use Rattle.trace_page.specs.Holding.{texts_in}
use Rattle.trace_page.specs.Pages.{IsStack}
use Rattle.trace_page.specs.parts.Writing.{IsLonger}
use Rattle.trace_page.proofs.columns.put_each_stack.Given as goal

abbrev pub invariant-stacks : goal.invariant-stacks
invariant-stacks l = record {
  tokens : StandAll json_tokens
      (AllZip (IsStack (texts_in l.strings)) (list_map (λ v. v.items) (take l.stack-index l.stacks)))
      l.initial.out.tokens l.out.tokens;
  grown : IsLonger (texts_in l.initial.strings) (texts_in l.strings);
  before : l.out.before ≡ l.initial.out.before;
}
