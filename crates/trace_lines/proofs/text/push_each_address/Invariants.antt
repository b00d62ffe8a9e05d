use Rattle.std.proofs.Common.{◌≡◌, ◌++◌, take, string_bytes, codes}
use Rattle.std.specs.List.{join_by}
use Rattle.trace_values.specs.AddressTexts.{address_text}
use Rattle.trace_lines.proofs.text.push_each_address.Given as goal

abbrev pub invariant-addresses : goal.invariant-addresses
invariant-addresses l =
    string_bytes l.out ≡ string_bytes l.initial.out ++ join_by address_text (codes ",") (take l.index l.addresses)
