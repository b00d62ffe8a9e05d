use Rattle.std.proofs.Common.{string_bytes}
use Rattle.trace_values.specs.AddressTexts.{address_text}
use Rattle.trace_lines.proofs.JoinedLists.{joined_read}
use Rattle.trace_lines.proofs.text.push_each_address.Goals as goal

pub addresses-preserved : goal.addresses-preserved
addresses-preserved c =
    joined_read address_text (string_bytes c.args.out.now) c.args.addresses.now c.addresses.index _
    c.addresses-test.true
    c.addresses.invariant c.in_ok-push_comma_before.ensures c.in_ok-push_address.ensures
