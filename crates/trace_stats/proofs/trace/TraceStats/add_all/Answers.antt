use Rattle.std.proofs.Common.{refl}
use Rattle.trace_stats.proofs.EventsOfRun.{begun, went_on, goes_shorter, all_counted, stopped}
use Rattle.trace_stats.proofs.trace.TraceStats.add_all.Goals as goal

pub frames-init : goal.frames-init
frames-init c = record { counted = begun c.args.decoder.now.failure c.args.decoder.now c.args.self.now refl }

pub frames-preserved : goal.frames-preserved
frames-preserved c =
    let next = c.in-Ok-true.ensures in record {
      counted = went_on c.args.decoder.now.failure c.args.decoder.now _ _ c.args.self.now _ _
          c.in-Ok-true.field-0-test c.frames.invariant.counted (next.next, next.again);
    }

pub frames-smaller : goal.frames-smaller
frames-smaller c =
    let next = c.in-Ok-true.ensures in
    goes_shorter c.args.decoder.now.failure c.args.decoder.now _ _ c.args.self.now _ _
    c.in-Ok-true.field-0-test c.frames.invariant.counted (next.next, next.again)

pub returns-in-Ok-false-clause-all : goal.returns-in-Ok-false-clause-all
returns-in-Ok-false-clause-all c =
    all_counted c.args.decoder.now.failure c.args.decoder.now _ _ c.args.self.now _ _
    c.in-Ok-false.field-0-test c.frames.invariant.counted c.in-Ok-false.ensures.next

pub returns-in-Err-clause-all : goal.returns-in-Err-clause-all
returns-in-Err-clause-all c =
    stopped c.in-Err.error c.args.decoder.now.failure c.args.decoder.now _ _ c.args.self.now _ _
    c.frames.invariant.counted c.in-Err.ensures.next
