use Rattle.trace_values.proofs.FlatForms.{scalar_in_own_memory, text_in_own_memory}
use Rattle.trace_values.proofs.types.owning.plain_owned.Goals as goal

pub returns-in-Some : goal.returns-in-Some
returns-in-Some c = scalar_in_own_memory c.in-Some.scalar _ _ c.in-Some.ensures.scalar c.of_scalar.ensures

pub returns-in_ok-string-in-String : goal.returns-in_ok-string-in-String
returns-in_ok-string-in-String c = text_in_own_memory _ c.in-String.text c.args.value.now c.in-String.is
    c.in_ok-string-in-String.ensures
