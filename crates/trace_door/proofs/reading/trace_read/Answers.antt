use Rattle.std.proofs.Common.{inl, inr, refl}
use Rattle.trace_batch.specs.declared.read_error.ReadError.TheVariants.{OutOfMemory}
use Rattle.trace_door.proofs.reading.trace_read.Goals as goal

pub returns-in-Ok-joined : goal.returns-in-Ok-joined
returns-in-Ok-joined c =
    inl (record { batch = c.in-Ok.found; is = c.in-Ok.ensures.read; told = c.tell_read.ensures })

pub returns-in-Ok : goal.returns-in-Ok
returns-in-Ok c =
    inr (record { error = OutOfMemory; refused = tt; code_is = refl; same = refl; untold = c.empty_report.ensures })
