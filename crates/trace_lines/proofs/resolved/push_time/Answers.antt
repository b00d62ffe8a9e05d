use Rattle.std.proofs.Common.{refl, string_bytes}
use Rattle.trace_lines.specs.ResolvedLines.{time_text}
use Rattle.trace_lines.proofs.AppendedParts.{in_two}
use Rattle.trace_lines.proofs.resolved.push_time.Goals as goal

pub returns : goal.returns
unfolding time_text
returns c =
    in_two c.push_decimal.result (string_bytes c.args.out.now) _ _ _ _ _ refl c.in_ok-push_str.ensures.bytes
    c.push_decimal.ensures
