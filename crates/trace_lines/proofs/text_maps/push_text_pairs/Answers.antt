use Rattle.std.proofs.Common.{◌≡◌, ◌++◌, List, ℕ, string_bytes, subst}
use Rattle.trace_lines.specs.Lines.{pair_text}
use Rattle.trace_lines.proofs.JoinedLists.{joined_more}
use Rattle.trace_lines.proofs.text_maps.push_text_pairs.Goals as goal

pub pairs-preserved : goal.pairs-preserved
pairs-preserved g c =
    let before = string_bytes c.push_comma_before.new.out in
    let put =
    subst (λ (p : List ℕ × List ℕ). string_bytes c.push_text_pair.new.out ≡ before ++ pair_text p) c.texts.ensures
    c.in_ok-push_text_pair.ensures in
    joined_more (λ p. pair_text (g.P.TextPair.texts p)) (string_bytes c.args.out.now) c.args.pairs.now c.pairs.index
    c.index-pairs-index.result c.pairs-test.true c.index-pairs-index.is c.pairs.invariant
    c.in_ok-push_comma_before.ensures put
