use Rattle.std.proofs.Common.{refl, map as list_map}
use Rattle.std.specs.Prelude.{codes}
use Rattle.trace_json.specs.EventJson.{list_json}
use Rattle.trace_page.specs.PageValues.{index_json}
use Rattle.trace_page.proofs.Chains.{member_put}
use Rattle.trace_page.proofs.data.writing.put_schema_member.Goals as goal

pub returns-clause-tokens : goal.returns-clause-tokens
returns-clause-tokens c =
    let places = list_json (list_map index_json c.args.places.now) in
    member_put c.put_indexes.result _ (codes "schema") places places _ refl c.in_ok-key.ensures.ok
    c.put_indexes.ensures.tokens
