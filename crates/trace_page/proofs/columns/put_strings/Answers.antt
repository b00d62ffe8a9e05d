use Rattle.std.specs.Prelude.{string_bytes}
use Rattle.json.specs.Json.{string}
use Rattle.trace_json.proofs.Tokens.{mapped_put}
use Rattle.trace_page.proofs.columns.put_strings.Goals as goal

pub returns-clause-tokens : goal.returns-clause-tokens
returns-clause-tokens c =
    mapped_put c.end_array.result (λ s. string (string_bytes s))
    c.args.strings.now _ _ _ _ c.in_ok-begin_array.ensures.ok
    c.in_ok-put_each_string.ensures.tokens c.end_array.ensures.ok
