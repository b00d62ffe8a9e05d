use Rattle.trace_values.specs.ValueViews.{text_pairs_view}
use Rattle.trace_json.specs.EventJson.{text_pair_json}
use Rattle.trace_json.proofs.Tokens.{mapped_put}
use Rattle.trace_json.proofs.texts.put_owned_texts.Goals as goal

pub returns-clause-tokens : goal.returns-clause-tokens
returns-clause-tokens c =
    mapped_put c.end_array.result text_pair_json (text_pairs_view c.args.pairs.now) _ _ _ _
    c.in_ok-begin_array.ensures.ok c.in_ok-put_owned_pairs.ensures.tokens c.end_array.ensures.ok
