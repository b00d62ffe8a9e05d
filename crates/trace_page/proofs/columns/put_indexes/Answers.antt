use Rattle.trace_page.specs.PageValues.{index_json}
use Rattle.trace_json.proofs.Tokens.{mapped_put}
use Rattle.trace_page.proofs.columns.put_indexes.Goals as goal

pub returns-clause-tokens : goal.returns-clause-tokens
returns-clause-tokens c =
    mapped_put c.end_array.result index_json c.args.indexes.now _ _ _ _ c.in_ok-begin_array.ensures.ok
    c.in_ok-put_each_index.ensures.tokens c.end_array.ensures.ok
