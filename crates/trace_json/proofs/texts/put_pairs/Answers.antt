use Rattle.std.proofs.Common.{◌∷◌, ◌++◌, [], ap, refl, ◌∙◌, List, ℕ}
use Rattle.std.specs.List.{flat_map}
use Rattle.std.proofs.lemmas.List.{flat_map_more}
use Rattle.json.specs.Token.{Token}
use Rattle.json.specs.Tree.{json_tokens}
use Rattle.trace_json.specs.EventJson.{text_pair_json}
use Rattle.trace_values.proofs.RawPairs.{all_left, one_stands, one_less, none_left}
use Rattle.trace_json.proofs.Tokens.{nothing_put}
use Rattle.trace_json.proofs.texts.put_pairs.Goals as goal

pub pairs-init : goal.pairs-init
pairs-init c = record {
  front = [];
  left = all_left c.args.pairs.now [] _ _ refl c.count-count.ensures c.raw_data-rest.ensures;
  tokens = nothing_put c.args.out.now.tokens;
  before = refl;
}

pub unwrap-requires : goal.unwrap-requires
unwrap-requires c =
    one_stands (λ x. ((x.0.0.now, x.0.1.now), x.1.now)) c.args.pairs.now c.text_pair_at.result _ _ _ _
    c.pairs-test.true
    c.text_pair_at.ensures c.pairs.invariant.left

pub pairs-preserved : goal.pairs-preserved
pairs-preserved c =
    let x = c.unwrap.result in
    let one : List ℕ × List ℕ = (x.0.0.now, x.0.1.now) in
    let shown = λ (p : List ℕ × List ℕ). json_tokens (text_pair_json p) in
    record {
      front = c.pairs.invariant.front ++ one ∷ [];
      left = one_less (λ y. ((y.0.0.now, y.0.1.now), y.1.now)) c.args.pairs.now _ _ _ _ c.pairs-test.true
          c.text_pair_at.ensures c.unwrap.ensures c.pairs.invariant.left;
      tokens = c.in_ok-put_pair.ensures.tokens ∙ ap (λ (t : List Token). t ++ shown one) c.pairs.invariant.tokens
          ∙ flat_map_more shown c.args.out.now.tokens c.pairs.invariant.front one;
      before = c.in_ok-put_pair.ensures.before ∙ c.pairs.invariant.before;
    }

pub returns : goal.returns
returns c = record {
  tokens = c.pairs.invariant.tokens
      ∙ ap (λ (ps : List (List ℕ × List ℕ)). c.args.out.now.tokens
      ++ flat_map (λ p. json_tokens (text_pair_json p)) ps)
      (none_left c.args.pairs.now _ _ _ _ c.pairs-test.false c.pairs.invariant.left);
  before = c.pairs.invariant.before;
}
