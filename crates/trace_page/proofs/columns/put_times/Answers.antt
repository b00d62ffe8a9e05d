use Rattle.trace_page.specs.PageValues.{time_json}
use Rattle.trace_json.proofs.Tokens.{mapped_put}
use Rattle.trace_page.proofs.columns.put_times.Goals as goal

pub returns-clause-tokens : goal.returns-clause-tokens
returns-clause-tokens c =
    mapped_put c.end_array.result (time_json c.args.start) c.args.times.now _ _ _ _ c.in_ok-begin_array.ensures.ok
    c.in_ok-put_each_time.ensures.tokens c.end_array.ensures.ok
