use Rattle.std.proofs.Common.{◌+◌, ◌∙◌, ap, map, sym, subst, List, ℕ}
use Rattle.std.proofs.lemmas.List.{map_push}
use Rattle.trace_values.proofs.RawPairs.{IsLeft, all_left, one_stands, one_less, none_left}
use Rattle.trace_lines.proofs.borrowed.raw_pairs.Goals as goal

pub pairs-init : goal.pairs-init
pairs-init c =
    all_left c.args.pairs.now _ _ _ (ap (map (λ p. (p.0.now, p.1.now))) c.new-raw.ensures.items) c.count-count.ensures
    c.raw_data-rest.ensures

pub unwrap-requires : goal.unwrap-requires
unwrap-requires c =
    one_stands (λ x. ((x.0.0.now, x.0.1.now), x.1.now)) c.args.pairs.now c.text_pair_at.result _ _ _ _
    c.pairs-test.true
    c.text_pair_at.ensures c.pairs.invariant

pub pairs-preserved : goal.pairs-preserved
pairs-preserved c =
    let x = c.unwrap.result in
    let seen = map (λ p. (p.0.now, p.1.now)) in
    let left = one_less (λ y. ((y.0.0.now, y.0.1.now), y.1.now)) c.args.pairs.now _ _ _ _ c.pairs-test.true
    c.text_pair_at.ensures c.unwrap.ensures c.pairs.invariant in
    subst
    (λ (front : List (List ℕ × List ℕ)). IsLeft c.args.pairs.now front c.count-count.result (c.pairs.counter + 1)
    x.1.now)
    (sym (ap seen c.in_ok-push.ensures.items ∙ map_push (λ p. (p.0.now, p.1.now)) c.pairs.raw.items x.0)) left

pub returns : goal.returns
returns c = none_left c.args.pairs.now _ _ _ _ c.pairs-test.false c.pairs.invariant
