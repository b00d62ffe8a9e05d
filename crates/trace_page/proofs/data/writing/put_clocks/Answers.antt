use Rattle.std.proofs.Common.{List, ◌++◌, ap, sym, ◌∙◌, map as list_map}
use Rattle.std.proofs.lemmas.List.Folds.{flat_map-map}
use Rattle.std.specs.Prelude.{codes}
use Rattle.json.specs.Token.{Token}
use Rattle.json.specs.Tree.{json_tokens}
use Rattle.trace_page.specs.Files.{clock_json}
use Rattle.trace_page.proofs.Chains.{list_member}
use Rattle.trace_page.proofs.data.writing.put_clocks.Goals as goal

pub returns-4-clause-tokens : goal.returns-4-clause-tokens
returns-4-clause-tokens c =
    list_member c.end_array.result _ (codes "clocks") (list_map clock_json c.args.clocks.now) _
    c.in-Ok-tri.ensures.ok c.in-Ok-tri-2.ensures.ok
    (c.in-Ok-tri-3.ensures.tokens
    ∙ ap (λ (t : List Token). c.begin_array.new.self.tokens ++ t)
    (sym (flat_map-map json_tokens clock_json c.args.clocks.now)))
    c.end_array.ensures.ok
