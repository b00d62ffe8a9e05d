use Rattle.std.proofs.Common.{◌≡◌, refl, rules, subst, List, ℕ}
use Rattle.trace_values.specs.AddressTexts.{address_text}
use Rattle.trace_json.proofs.Tokens.{one_stands}
use Rattle.trace_page.specs.Holding.{texts_in}
use Rattle.trace_page.specs.PageValues.{IsIndexOf, index_json}
use Rattle.trace_page.specs.parts.Writing.{StandsAt}
use Rattle.trace_page.proofs.Chains.{so_on_ok}
use Rattle.trace_page.proofs.columns.put_frame.Goals as goal

pub returns-clause-tokens : goal.returns-clause-tokens
returns-clause-tokens c =
    let texts = texts_in c.index_of_text.new.strings in
    let i = c.in_ok-index.index in
    let text : c.as_str.result.now ≡ address_text c.args.address = search rules in
    one_stands c.put_index.result (IsIndexOf texts (address_text c.args.address)) (index_json i) _ _
    (i, subst (λ (s : List ℕ). StandsAt texts s i) text c.in_ok-index.ensures.index, refl)
    c.put_index.ensures.tokens

pub returns-clause-grown : goal.returns-clause-grown
returns-clause-grown c = so_on_ok c.put_index.result c.in_ok-index.ensures.grown
