use Rattle.std.proofs.Common.{rules}
use Rattle.trace_page.proofs.Chains.{so_on_ok}
use Rattle.trace_page.proofs.Growing.{longer_refl}
use Rattle.trace_page.proofs.Told.{lists_put}
use Rattle.trace_page.proofs.data.writing.put_lists.Goals as goal

pub returns-4-clause-tokens : goal.returns-4-clause-tokens
returns-4-clause-tokens c =
    lists_put c.put_strings.result c.put_stacks.new.strings.keys c.args.names.now.stacks.keys _ _
    c.in-Ok-tri.ensures.ok c.in-Ok-tri-2.ensures.tokens c.in-Ok-tri-3.ensures.ok c.put_strings.ensures.tokens
    (search rules, search rules)

pub returns-4-clause-grown : goal.returns-4-clause-grown
returns-4-clause-grown c =
    so_on_ok c.put_strings.result (record { strings = c.in-Ok-tri-2.ensures.grown; stacks = longer_refl _ })
