use Rattle.trace_converter.proofs.ConvertedFields.{event_written, event_refused}
use Rattle.trace_converter.proofs.converter.convert.Goals as goal

pub returns-in-Ok-clause-converted : goal.returns-in-Ok-clause-converted
returns-in-Ok-clause-converted g c =
    event_written c.args.rule.now c.write_event_at.new.self c.in_ok-fields.ensures.kept
    (rw (c.in_ok-schema.ensures, c.as_slice.ensures.value) at c.in-Ok.ensures.call)

pub returns-clause-refused : goal.returns-clause-refused
returns-clause-refused g c =
    event_refused c.args.rule.now c.in-Err.error c.write_event_at.new.self c.in_ok-fields.ensures.kept
    (rw (c.in_ok-schema.ensures, c.as_slice.ensures.value) at c.in-Err.ensures.call)
