use Rattle.std.proofs.Common.{refl}
use Rattle.trace_wire.specs.PoolEntries.{string_ref_of, stack_ref_of}
use Rattle.trace_wire.specs.parts.FrameViews.{frame_by}
use Rattle.trace_cuts.proofs.OneFrameCopied.{other_shorter, other_copied, other_conflicts}
use Rattle.trace_cuts.proofs.copying.Copying.copy_other.Goals as goal

pub keep-requires : goal.keep-requires
keep-requires c =
    other_shorter c.args.self.now.rest.now c.args.after.now
    (frame_by string_ref_of stack_ref_of c.args.frame.now) c.requires

pub returns-in_ok-keep-in-Ok-None : goal.returns-in_ok-keep-in-Ok-None
returns-in_ok-keep-in-Ok-None c =
    other_copied string_ref_of stack_ref_of c.args.frame.now c.args.self.now _ c.requires
    (rw c.in-Ok-None.field-0-is at c.in-Ok-None.ensures.ok) refl refl c.in_ok-keep-in-Ok-None.ensures

pub returns-in-Ok-Some : goal.returns-in-Ok-Some
returns-in-Ok-Some c =
    other_conflicts (frame_by string_ref_of stack_ref_of c.args.frame.now) c.args.self.now _ c.in-Ok-Some.id c.requires
    (rw c.in-Ok-Some.field-0-is at c.in-Ok-Some.ensures.ok) refl refl refl
