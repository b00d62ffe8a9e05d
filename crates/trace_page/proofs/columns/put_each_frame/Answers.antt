use Rattle.std.proofs.Common.{[], refl, ◌∙◌}
use Rattle.std.specs.List.{AllZip}
use Rattle.json.specs.Tree.{json_tokens}
use Rattle.trace_values.specs.AddressTexts.{address_text}
use Rattle.trace_json.proofs.OneMore.{all_stand}
use Rattle.trace_json.proofs.Tokens.{nothing_put}
use Rattle.trace_page.specs.Holding.{texts_in}
use Rattle.trace_page.specs.PageValues.{IsIndexOf}
use Rattle.trace_page.proofs.Growing.{longer_refl, longer_trans, index_grows}
use Rattle.trace_page.proofs.MoreStand.{zip_stands}
use Rattle.trace_page.proofs.Named.{read_again}
use Rattle.trace_page.proofs.columns.put_each_frame.Goals as goal

pub addresses-init : goal.addresses-init
addresses-init c = record {
  tokens = record { all = []; are_so = tt; tokens = nothing_put c.args.out.now.tokens };
  grown = longer_refl (texts_in c.args.strings.now);
  before = refl;
}

pub addresses-preserved : goal.addresses-preserved
addresses-preserved c = record {
  tokens = zip_stands address_text (IsIndexOf (texts_in c.addresses.strings))
      (IsIndexOf (texts_in c.put_frame.new.strings))
      (index_grows (texts_in c.addresses.strings) (texts_in c.put_frame.new.strings) c.in_ok-put_frame.ensures.grown)
      c.args.stack.now c.addresses.address-index _
      (record { inside = c.addresses-test.true; is = read_again c.args.stack.now c.addresses.address-index })
      c.addresses.invariant.tokens
      c.in_ok-put_frame.ensures.tokens;
  grown = longer_trans _ _ _ c.addresses.invariant.grown c.in_ok-put_frame.ensures.grown;
  before = c.in_ok-put_frame.ensures.before ∙ c.addresses.invariant.before;
}

pub returns-clause-tokens : goal.returns-clause-tokens
returns-clause-tokens c =
    all_stand json_tokens (AllZip (IsIndexOf (texts_in c.addresses.strings))) address_text c.args.stack.now
    c.addresses.address-index _ _ c.addresses-test.false c.addresses.invariant.tokens
