use Rattle.trace_cuts.proofs.OneFrameCopied.{went_on, all_copied, conflict_copied}
use Rattle.trace_cuts.proofs.copying.Copying.copy_all.Goals as goal

pub frames-init : goal.frames-init
frames-init c = record { copied = λ start bytes h. h }

pub frames-preserved : goal.frames-preserved
frames-preserved c = record {
  copied = λ start bytes h.
      (went_on _ _ _ _ c.in-Ok-Frame.field-0-is c.in-Ok-Frame.ensures).copies start bytes
      (c.frames.invariant.copied start bytes h);
}

pub frames-smaller : goal.frames-smaller
frames-smaller c = (went_on _ _ _ _ c.in-Ok-Frame.field-0-is c.in-Ok-Frame.ensures).shorter

pub returns-in-Ok-End : goal.returns-in-Ok-End
returns-in-Ok-End c =
    all_copied _ c.args.self.now _ _ _ c.frames.invariant.copied c.in-Ok-End.field-0-is c.in-Ok-End.ensures

pub returns-in-Ok-Conflict : goal.returns-in-Ok-Conflict
returns-in-Ok-Conflict c =
    conflict_copied _ c.args.self.now _ _ _ _ c.frames.invariant.copied c.in-Ok-Conflict.field-0-is
    c.in-Ok-Conflict.ensures
