use Rattle.trace_values.proofs.FlatForms.{text_same}
use Rattle.trace_values.proofs.types.copying.plain_copy.Goals as goal

pub returns-in_ok-string-in-String : goal.returns-in_ok-string-in-String
returns-in_ok-string-in-String c = text_same _ _ c.in-String.text c.args.value.now c.in-String.is
    c.as_str.ensures.value c.in_ok-string-in-String.ensures
