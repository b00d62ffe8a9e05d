use Rattle.std.proofs.Common.{ℕ, Vec, Global, ◌∙◌}
use Rattle.trace_page.proofs.Growing.{grows_trans}
use Rattle.trace_page.proofs.MoreStand.{text_pair_stands, texts_grow_twice, index_as}
use Rattle.trace_page.proofs.values.leaves.put_text_pairs.Goals as goal

pub pairs-preserved : goal.pairs-preserved
pairs-preserved c =
    let first = c.in_ok-put_text_bytes.ensures in
    let second = c.in_ok-put_text_bytes-2.ensures in
    record {
      tokens = text_pair_stands (texts_grow_twice first.grown second.grown)
          (λ (p : Vec ℕ Global × Vec ℕ Global). (p.0.items, p.1.items)) c.args.pairs.now c.pairs.pair-index _
          (record { inside = c.pairs-test.true; is = c.pair-item.is }) c.pairs.invariant.tokens
          (index_as _ _ _ c.deref.ensures.value first.tokens)
          (index_as _ _ _ c.deref-in-pairs.ensures.value second.tokens);
      grown = grows_trans _ _ _ c.pairs.invariant.grown (grows_trans _ _ _ first.grown second.grown);
      before = second.before ∙ first.before ∙ c.pairs.invariant.before;
    }
