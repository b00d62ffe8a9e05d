use Rattle.std.proofs.Common.{ap, refl}
use Rattle.std.proofs.lemmas.Result.{err_from_is_err_and}
use Rattle.trace_lines.proofs.PiecesHeld.{event_spelled}
use Rattle.trace_lines.proofs.PulledLines.{pulls_count}
use Rattle.trace_lines.proofs.pieces.put_event.Goals as goal

pub returns-in_default-clause-puts : goal.returns-in_default-clause-puts
returns-in_default-clause-puts g c whole = c.refusal.ensures _

pub returns-in_err-push_spelled_line-clause-puts : goal.returns-in_err-push_spelled_line-clause-puts
returns-in_err-push_spelled_line-clause-puts g c whole =
    let p = err_from_is_err_and c.from_residual.result c.from_residual.ensures.1 in
    rw (p.1, p.2) (c.in_err-push_spelled_line.ensures whole.at.values
    (event_spelled whole (ap (λ r. r.wire_types) c.registry.ensures) c.in-Some.ensures c.fields.ensures
    c.event_values-bytes.ensures))

pub returns-clause-puts : goal.returns-clause-puts
returns-clause-puts g c whole = (
  refl,
  c.in_ok-push_spelled_line.ensures whole.at.values
      (event_spelled whole (ap (λ r. r.wire_types) c.registry.ensures) c.in-Some.ensures c.fields.ensures
      c.event_values-bytes.ensures),
  c.pass_event.ensures.pulls whole,
)

pub returns-clause-same : goal.returns-clause-same
returns-clause-same g c = pulls_count (c.pass_event.ensures.pulls c.requires)
