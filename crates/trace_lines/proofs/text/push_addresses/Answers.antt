use Rattle.std.proofs.Common.{string_bytes}
use Rattle.trace_lines.proofs.AppendedParts.{both_put, put_last}
use Rattle.trace_lines.proofs.ValueTexts.{text_of_addresses}
use Rattle.trace_lines.proofs.text.push_addresses.Goals as goal

pub returns : goal.returns
returns c =
    put_last c.push.result _ _ _ _ _ _ (text_of_addresses c.args.addresses.now)
    (both_put (string_bytes c.args.out.now) _ _ _ _ c.in_ok-push_str.ensures.bytes c.in_ok-push_each_address.ensures)
    c.push.ensures.bytes
