use Rattle.std.proofs.Common.{◌≡◌, ap, rules, ℕ}
use Rattle.std.specs.Fmt.{decimal}
use Rattle.json.specs.Token as token
use Rattle.trace_json.proofs.Tokens.{put_four}
use Rattle.trace_page.proofs.values.leaves.put_unknown.Goals as goal

pub returns-4-clause-tokens : goal.returns-4-clause-tokens
returns-4-clause-tokens c =
    let number : c.from.result ≡ c.args.id = search rules in
    let same : token.number (decimal c.from.result) ≡ token.number (decimal c.args.id) =
    ap (λ (n : ℕ). token.number (decimal n)) number in
    put_four c.end_object.result _ _ same (record {
      one = _;
      two = _;
      first = c.in-Ok-tri.ensures.ok;
      second = c.in-Ok-tri-2.ensures.ok;
      third = c.in-Ok-tri-3.ensures.ok;
    }) c.end_object.ensures.ok
