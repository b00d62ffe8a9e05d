use Rattle.std.proofs.Common.{◌≡◌, ap, rules}
use Rattle.hex.specs.Hex.{encode_lower}
use Rattle.json.specs.Token as token
use Rattle.trace_json.proofs.Tokens.{put_four}
use Rattle.trace_json.proofs.leaves.put_bytes.Goals as goal

pub returns-5-clause-tokens : goal.returns-5-clause-tokens
returns-5-clause-tokens c =
    let text : c.as_str.result.now ≡ encode_lower c.args.bytes.now = search rules in
    let same : token.string c.as_str.result.now ≡ token.string (encode_lower c.args.bytes.now) =
    ap token.string text in
    put_four c.end_object.result _ _ same (record {
      one = _;
      two = _;
      first = c.in-Ok-tri-2.ensures.ok;
      second = c.in-Ok-tri-3.ensures.ok;
      third = c.in-Ok-tri-4.ensures.ok;
    }) c.end_object.ensures.ok
