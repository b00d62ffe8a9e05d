-- What was written of a whole run.
use Rattle.std.specs.Prelude.{◌≡◌, ℕ, List, [], ◌∷◌, ◌++◌, Option, Some, None}
use Rattle.trace_values.specs.Sending.{Account, Took}
use Rattle.trace_wire.specs.Frames.{Frame}
use Rattle.trace_wire.specs.Runs.{Item, SchemaItem, EventItem, StringsItem, StacksItem, AnnotationsItem, items}
use Rattle.trace_writer.specs.State.{EncoderView}
use Rattle.trace_writer.specs.Calls.{type_key, wire_id_of}
use Rattle.trace_writer.specs.Joining.{IsTraceOf}
use Rattle.dial9_trace_format.specs.ShownEvents.{ShownEvent}
use Rattle.dial9_trace_format.specs.Sinks.{Takes}
use Rattle.trace_converter.specs.declared.rules.Rule.{Rule}
use Rattle.trace_converter.specs.declared.converter.Converter.{Converter}
use Rattle.trace_converter.specs.Rules.{rule_for, new_entry}
use Rattle.trace_converter.specs.Conversions.{ConvertsEvent}
use Rattle.trace_converter.specs.Steps.{Converts}

-- the events among items, in order
abbrev pub events_among : List Item → List Item
events_among [] = []
events_among (EventItem id time values ∷ others) = EventItem id time values ∷ events_among others
events_among (SchemaItem entry ∷ others) = events_among others
events_among (StringsItem entries ∷ others) = events_among others
events_among (StacksItem entries ∷ others) = events_among others
events_among (AnnotationsItem id entries ∷ others) = events_among others

-- an event that was converted, as a reader shows it: at the same time, with the new values, under the wire id of the
-- new schema
abbrev pub converted_item : {W : Type 0} {told : W → Account} {rule : Rule} {e : ShownEvent} {old new : EncoderView W}
    → ConvertsEvent told rule e old new → Item
converted_item {W} {told} {rule} {e} c =
    EventItem (wire_id_of c.mid.state (type_key rule.slot) (new_entry rule c.kept)) e.time c.values

-- an event for which there is a rule is mapped to the one that it became, and any other to none
abbrev pub MapsBy : {W : Type 0} → (W → Account) → Option Rule → ShownEvent → EncoderView W → List Item
    → (EncoderView W → List Item → Type 0) → Type 0
MapsBy told None e old shown later = later old shown
MapsBy {W} told (Some rule) e old shown later =
    (mid : EncoderView W) × (rest : List Item) × (c : ConvertsEvent told rule e old mid)
    × (shown ≡ converted_item c ∷ rest) × later mid rest

-- events, one after another
abbrev pub AreMapped : {W : Type 0} → (W → Account) → List Rule → List ShownEvent → EncoderView W → List Item
    → EncoderView W → Type 0
AreMapped told rules [] old shown new = (shown ≡ []) × (new ≡ old)
AreMapped told rules (e ∷ events) old shown new =
    MapsBy told (rule_for rules e.name) e old shown (λ mid rest. AreMapped told rules events mid rest new)

-- After a trace of these frames the writer took bytes that make it a longer trace. The events of its new frames are
-- those of the run, in order, mapped.
pub record WritesRun {W : Type 0} (told : W → Account) (events : List ShownEvent) (s t : Converter W) (trace : List ℕ)
    (frames : List Frame) : Type 0 where
  pub sent : List ℕ
  pub more : List Frame
  pub shown : List Item
  pub took : Took (told s.encoder.writer) (told t.encoder.writer) sent []
  pub longer : IsTraceOf (trace ++ sent) (frames ++ more) t.encoder.state
  pub shows : events_among (items more) ≡ shown
  pub mapped : AreMapped told s.rules.now events s.encoder shown t.encoder

-- so of each run of which all events were taken, where a trace was written before
abbrev pub RunIsWritten : {W : Type 0} → (W → Account) → Type 0
RunIsWritten {W} told = (events : List ShownEvent) (s t : Converter W) (trace : List ℕ) (frames : List Frame)
    → Takes (Converts told) events s t → IsTraceOf trace frames s.encoder.state
    → WritesRun told events s t trace frames
