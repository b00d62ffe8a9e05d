use Rattle.trace_values.specs.ValueViews.{text_pairs_view}
use Rattle.trace_json.proofs.Tokens.{list_stands}
use Rattle.trace_page.specs.Holding.{texts_in}
use Rattle.trace_page.specs.PageValues.{ArePairTexts}
use Rattle.trace_page.proofs.values.leaves.put_texts.Goals as goal

pub returns-clause-tokens : goal.returns-clause-tokens
returns-clause-tokens c =
    list_stands c.end_array.result
    (ArePairTexts (texts_in c.put_text_pairs.new.names.strings) (text_pairs_view c.args.pairs.now))
    c.args.out.now.tokens c.begin_array.new.self.tokens c.put_text_pairs.new.out.tokens c.end_array.new.self.tokens
    c.in_ok-begin_array.ensures.ok c.in_ok-put_text_pairs.ensures.tokens c.end_array.ensures.ok
