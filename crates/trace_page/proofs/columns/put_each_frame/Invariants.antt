use Rattle.std.proofs.Common.{◌≡◌, take, map as list_map}
use Rattle.std.specs.List.{AllZip}
use Rattle.json.specs.Tree.{json_tokens}
use Rattle.trace_values.specs.AddressTexts.{address_text}
use Rattle.trace_json.specs.parts.Put.{StandAll}
use Rattle.trace_page.specs.Holding.{texts_in}
use Rattle.trace_page.specs.PageValues.{IsIndexOf}
use Rattle.trace_page.specs.parts.Writing.{IsLonger}
use Rattle.trace_page.proofs.columns.put_each_frame.Given as goal

abbrev pub invariant-addresses : goal.invariant-addresses
invariant-addresses l = record {
  tokens : StandAll json_tokens
      (AllZip (IsIndexOf (texts_in l.strings)) (list_map address_text (take l.address-index l.stack)))
      l.initial.out.tokens l.out.tokens;
  grown : IsLonger (texts_in l.initial.strings) (texts_in l.strings);
  before : l.out.before ≡ l.initial.out.before;
}
