use Rattle.std.proofs.Common.{refl}
use Rattle.trace_json.proofs.Tokens.{one_stands}
use Rattle.trace_page.specs.Holding.{texts_in}
use Rattle.trace_page.specs.PageValues.{IsIndexOf, index_json}
use Rattle.trace_page.proofs.Chains.{so_on_ok}
use Rattle.trace_page.proofs.Growing.{longer_refl}
use Rattle.trace_page.proofs.values.leaves.put_text.Goals as goal

pub returns-clause-tokens : goal.returns-clause-tokens
returns-clause-tokens c =
    one_stands c.put_index.result (IsIndexOf (texts_in c.index_of_text.new.strings) c.args.text.now)
    (index_json c.in_ok-index.index) _ _ (c.in_ok-index.index, c.in_ok-index.ensures.index, refl)
    c.put_index.ensures.tokens

pub returns-clause-grown : goal.returns-clause-grown
returns-clause-grown c =
    so_on_ok c.put_index.result (record { strings = c.in_ok-index.ensures.grown; stacks = longer_refl _ })
