use Rattle.trace_json.specs.EventJson.{address_json}
use Rattle.trace_json.proofs.Tokens.{mapped_put}
use Rattle.trace_json.proofs.leaves.put_stack.Goals as goal

pub returns-clause-tokens : goal.returns-clause-tokens
returns-clause-tokens c =
    mapped_put c.end_array.result address_json c.args.addresses.now _ _ _ _
    c.in_ok-begin_array.ensures.ok c.in_ok-put_addresses.ensures.tokens c.end_array.ensures.ok
