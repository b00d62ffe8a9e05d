use Rattle.trace_lines.proofs.PlainRuns.{one_more_tested, all_tested}
use Rattle.trace_lines.proofs.text.are_plain.Goals as goal

pub loop-byte-preserved : goal.loop-byte-preserved
loop-byte-preserved c =
    one_more_tested c.args.bytes.now c.loop-byte.byte-index _ c.loop-byte-test.true c.loop-byte.invariant
    c.is_plain-same.ensures

pub returns : goal.returns
returns c = all_tested c.args.bytes.now c.loop-byte.byte-index c.loop-byte-test.false c.loop-byte.invariant
