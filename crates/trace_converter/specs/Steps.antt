-- What a converter does with each event that it is shown.
use Rattle.std.specs.Prelude.{◌≡◌, Option, Some, None, Result, Ok, Err}
use Rattle.trace_values.specs.Sending.{Account}
use Rattle.trace_writer.specs.State.{EncoderView}
use Rattle.dial9_trace_format.specs.ShownEvents.{ShownEvent}
use Rattle.trace_converter.specs.declared.rules.Rule.{Rule}
use Rattle.trace_converter.specs.declared.converter.Converter.{Converter}
use Rattle.trace_converter.specs.declared.converter.ConvertError.{ConvertError}
use Rattle.trace_converter.specs.Rules.{rule_for}
use Rattle.trace_converter.specs.Conversions.{ConvertsEvent, RefusesEvent}

-- by the rule for it, if there is one
abbrev pub ConvertsBy : {W : Type 0} → (W → Account) → Option Rule → ShownEvent → EncoderView W
    → Result (Unit {0}) ConvertError → EncoderView W → Type 0
ConvertsBy told None e old r new = (r ≡ Ok tt) × (new ≡ old)
ConvertsBy told (Some rule) e old (Ok u) new = ConvertsEvent told rule e old new
ConvertsBy told (Some rule) e old (Err error) new = RefusesEvent told rule e old error new

-- The rules stay, and the encoder goes on.
abbrev pub Converts : {W : Type 0} → (W → Account) → Converter W → ShownEvent → Result (Unit {0}) ConvertError
    → Converter W → Type 0
Converts told s e r t = ConvertsBy told (rule_for s.rules.now e.name) e s.encoder r t.encoder
    × (t ≡ record s { encoder = t.encoder })
