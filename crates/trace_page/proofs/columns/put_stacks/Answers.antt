use Rattle.std.proofs.Common.{ℕ, Vec, Global, map as list_map}
use Rattle.std.specs.List.{AllZip}
use Rattle.trace_page.specs.Pages.{IsStack}
use Rattle.trace_json.proofs.Tokens.{list_stands}
use Rattle.trace_page.specs.Holding.{texts_in}
use Rattle.trace_page.proofs.Chains.{so_on_ok}
use Rattle.trace_page.proofs.columns.put_stacks.Goals as goal

pub returns-clause-tokens : goal.returns-clause-tokens
returns-clause-tokens c =
    list_stands c.end_array.result
    (AllZip (IsStack (texts_in c.put_each_stack.new.strings))
    (list_map (λ (v : Vec ℕ Global). v.items) c.args.stacks.now))
    c.args.out.now.tokens c.begin_array.new.self.tokens c.put_each_stack.new.out.tokens c.end_array.new.self.tokens
    c.in_ok-begin_array.ensures.ok c.in_ok-put_each_stack.ensures.tokens c.end_array.ensures.ok

pub returns-clause-grown : goal.returns-clause-grown
returns-clause-grown c = so_on_ok c.end_array.result c.in_ok-put_each_stack.ensures.grown
