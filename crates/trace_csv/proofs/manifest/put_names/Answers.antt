use Rattle.json.specs.Json.{string}
use Rattle.dial9_trace_format.specs.ShownEvents.{names_of}
use Rattle.trace_json.proofs.Tokens.{mapped_put}
use Rattle.trace_csv.proofs.manifest.put_names.Goals as goal

pub returns-clause-tokens : goal.returns-clause-tokens
returns-clause-tokens c =
    mapped_put c.end_array.result string (names_of c.args.fields.now) _ _ _ _
    c.in_ok-begin_array.ensures.ok c.in_ok-put_each_name.ensures.tokens c.end_array.ensures.ok
