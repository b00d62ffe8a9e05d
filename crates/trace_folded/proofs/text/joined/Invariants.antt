use Rattle.std.proofs.Common.{◌≡◌, ◌++◌, string_bytes, take}
use Rattle.std.specs.List.{flat_map}
use Rattle.trace_values.specs.AddressTexts.{address_text}
use Rattle.trace_folded.specs.Stacks.{after_text}
use Rattle.trace_folded.proofs.text.joined.Given as goal

abbrev pub invariant-addresses : goal.invariant-addresses
invariant-addresses l =
    string_bytes l.text ≡ address_text l.fn.first ++ flat_map after_text (take l.address-index l.others)
