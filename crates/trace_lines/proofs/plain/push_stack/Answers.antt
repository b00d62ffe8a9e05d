use Rattle.std.proofs.Common.{refl}
use Rattle.trace_lines.proofs.AppendedParts.{in_two}
use Rattle.trace_lines.proofs.plain.push_stack.Goals as goal

pub returns : goal.returns
returns c = in_two c.push_addresses.result _ _ _ _ _ _ refl c.in_ok-push_str.ensures.bytes c.push_addresses.ensures
