use Rattle.std.proofs.Common.{[], refl, ℕ, List, Vec, Global, subst, ◌∙◌}
use Rattle.std.specs.List.{AllZip}
use Rattle.json.specs.Tree.{json_tokens}
use Rattle.trace_json.specs.Put.{Stands}
use Rattle.trace_json.proofs.OneMore.{all_stand}
use Rattle.trace_json.proofs.Tokens.{nothing_put}
use Rattle.trace_page.specs.Holding.{texts_in}
use Rattle.trace_page.specs.Pages.{IsStack}
use Rattle.trace_page.proofs.Growing.{longer_refl, longer_trans, stack_grows}
use Rattle.trace_page.proofs.MoreStand.{zip_stands}
use Rattle.trace_page.proofs.columns.put_each_stack.Goals as goal

pub stacks-init : goal.stacks-init
stacks-init c = record {
  tokens = record { all = []; are_so = tt; tokens = nothing_put c.args.out.now.tokens };
  grown = longer_refl (texts_in c.args.strings.now);
  before = refl;
}

pub stacks-preserved : goal.stacks-preserved
stacks-preserved c = record {
  tokens = zip_stands (λ (v : Vec ℕ Global). v.items) (IsStack (texts_in c.stacks.strings))
      (IsStack (texts_in c.put_frames.new.strings))
      (stack_grows (texts_in c.stacks.strings) (texts_in c.put_frames.new.strings) c.in_ok-put_frames.ensures.grown)
      c.args.stacks.now c.stacks.stack-index _
      (record { inside = c.stacks-test.true; is = c.stack-item.is }) c.stacks.invariant.tokens
      (subst (λ (s : List ℕ). Stands (IsStack (texts_in c.put_frames.new.strings) s) c.stacks.out.tokens
      c.put_frames.new.out.tokens) c.deref.ensures.value c.in_ok-put_frames.ensures.tokens);
  grown = longer_trans _ _ _ c.stacks.invariant.grown c.in_ok-put_frames.ensures.grown;
  before = c.in_ok-put_frames.ensures.before ∙ c.stacks.invariant.before;
}

pub returns-clause-tokens : goal.returns-clause-tokens
returns-clause-tokens c =
    all_stand json_tokens (AllZip (IsStack (texts_in c.stacks.strings))) (λ (v : Vec ℕ Global). v.items)
    c.args.stacks.now c.stacks.stack-index _ _ c.stacks-test.false c.stacks.invariant.tokens
