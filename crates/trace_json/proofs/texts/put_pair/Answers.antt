use Rattle.trace_json.specs.EventJson.{text_json}
use Rattle.trace_json.proofs.Tokens.{pair_put}
use Rattle.trace_json.proofs.texts.put_pair.Goals as goal

pub returns-4-clause-tokens : goal.returns-4-clause-tokens
returns-4-clause-tokens c =
    pair_put c.end_array.result (text_json c.args.key.now) (text_json c.args.value.now) _ _
    c.in-Ok-tri.ensures.ok c.in-Ok-tri-2.ensures.tokens c.in-Ok-tri-3.ensures.tokens c.end_array.ensures.ok
