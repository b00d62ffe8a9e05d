use Rattle.std.proofs.Common.{refl}
use Rattle.trace_recordings.proofs.ScriptTurns.{resumption_refused}
use Rattle.trace_recordings.proofs.player.Player.resume.Goals as goal

pub returns-in-Err-clause-resumes : goal.returns-in-Err-clause-resumes
returns-in-Err-clause-resumes c = (
  resumption_refused _ _ c.in_ok-encoder.field-0 c.in-Err.error c.deref.ensures.value c.in-Err.is
      c.in_ok-encoder.ensures.answers,
  refl,
)
