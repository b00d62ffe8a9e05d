use Rattle.std.proofs.Common.{ℕ, List, Option, ap, subst}
use Rattle.trace_json.proofs.Tokens.{one_stands}
use Rattle.std.specs.FinMap as finmap
use Rattle.trace_page.specs.Holding.{lists_in}
use Rattle.trace_page.specs.PageValues.{IsPooled, unknown_json}
use Rattle.trace_page.proofs.values.leaves.put_pooled_stack.Goals as goal

pub returns-in-None-clause-tokens : goal.returns-in-None-clause-tokens
returns-in-None-clause-tokens c =
    let xs = lists_in c.args.names.now.stacks in
    let j = unknown_json c.raw_id.result in
    one_stands c.put_unknown.result (IsPooled xs c.args.id.0 (finmap.get c.args.stacks.now c.args.id.0)) j _ _
    (subst (λ (o : Option (List ℕ)). IsPooled xs c.args.id.0 o j) c.in-None.ensures (ap unknown_json c.raw_id.ensures))
    c.put_unknown.ensures.tokens
