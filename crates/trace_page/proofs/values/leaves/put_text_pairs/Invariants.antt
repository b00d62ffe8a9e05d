use Rattle.std.proofs.Common.{◌≡◌, take}
use Rattle.json.specs.Tree.{json_tokens}
use Rattle.trace_values.specs.ValueViews.{text_pairs_view}
use Rattle.trace_json.specs.parts.Put.{StandAll}
use Rattle.trace_page.specs.Holding.{tables_of}
use Rattle.trace_page.specs.PageValues.{ArePairTexts}
use Rattle.trace_page.specs.parts.Writing.{Grows}
use Rattle.trace_page.proofs.values.leaves.put_text_pairs.Given as goal

abbrev pub invariant-pairs : goal.invariant-pairs
invariant-pairs l = record {
  tokens : StandAll json_tokens
      (ArePairTexts (tables_of l.names).strings (text_pairs_view (take l.pair-index l.pairs))) l.initial.out.tokens
      l.out.tokens;
  grown : Grows (tables_of l.initial.names) (tables_of l.names);
  before : l.out.before ≡ l.initial.out.before;
}
