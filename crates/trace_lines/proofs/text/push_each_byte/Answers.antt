use Rattle.std.proofs.Common.{string_bytes}
use Rattle.trace_lines.specs.Lines.{quoted_byte}
use Rattle.trace_lines.proofs.AppendedParts.{nothing_put, shown_read}
use Rattle.trace_lines.proofs.text.push_each_byte.Goals as goal

pub loop-byte-init : goal.loop-byte-init
loop-byte-init c = nothing_put (string_bytes c.args.out.now)

pub loop-byte-preserved : goal.loop-byte-preserved
loop-byte-preserved c =
    shown_read quoted_byte (string_bytes c.args.out.now) _ c.loop-byte.byte-index _ c.loop-byte-test.true
    c.loop-byte.invariant c.in_ok-push_quoted_byte.ensures
