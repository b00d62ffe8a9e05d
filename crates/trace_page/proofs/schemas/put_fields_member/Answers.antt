use Rattle.std.specs.Prelude.{codes, length}
use Rattle.trace_page.specs.PageSchemas.{first_fields}
use Rattle.trace_page.proofs.Chains.{list_member}
use Rattle.trace_page.proofs.schemas.put_fields_member.Goals as goal

pub returns-4-clause-tokens : goal.returns-4-clause-tokens
returns-4-clause-tokens c =
    list_member c.end_array.result _ (codes "fields") (first_fields c.args.entry.now (length c.args.entry.now.fields)) _
    c.in-Ok-tri.ensures.ok c.in-Ok-tri-2.ensures.ok c.in-Ok-tri-3.ensures.tokens c.end_array.ensures.ok
