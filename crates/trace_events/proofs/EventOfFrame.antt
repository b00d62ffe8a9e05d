-- The event that a frame is.
use Rattle.std.proofs.Common.{◌≡◌, ℕ, List, [], ◌∷◌, refl, sym, ap, ◌∙◌, Option, Some, None}
use Rattle.std.specs.FinMap as map
use Rattle.std.specs.Option.{option_map}
use Rattle.std.specs.Ordering.{nat_cmp}
use Rattle.std.specs.Prelude.{Vec}
use Rattle.std.specs.declared.alloc.Global.{Global}
use Rattle.trace_values.specs.Values.{Value}
use Rattle.trace_values.specs.ValueViews.{views}
use Rattle.trace_values.specs.declared.types.field_value.FieldValue.{FieldValue}
use Rattle.trace_wire.specs.declared.schema.WireTypeId.{WireTypeId}
use Rattle.trace_wire.specs.Runs.{Pools}
use Rattle.trace_wire.specs.Schemas.{Entry, WireType}
use Rattle.trace_wire.specs.WireTypes.{entry_of}
use Rattle.dial9_trace_format.specs.ShownEvents.{ShownEvent}
use Rattle.dial9_trace_format.specs.Sinks.{event_by}
use Rattle.dial9_trace_format.specs.DecodedFrames.{item_of}
use Rattle.dial9_trace_format.specs.declared.decoder.decoded_frame.DecodedFrame.{DecodedFrame}
use Rattle.dial9_trace_format.specs.declared.decoder.decoded_frame.DecodedFrame.TheVariants as frames
use Rattle.trace_events.specs.OwnedEvents.{events_in}

abbrev pub shown_by : Entry → Pools → ℕ → ℕ → List Value → ShownEvent
shown_by x p id time values = record {
  id = id;
  name = x.name;
  time = time;
  values = values;
  entry = x;
  pools = p;
}

pub some_event :
    (o : Option WireType) (x : Entry) (p : Pools) (id time : ℕ) (values : List Value) →
    Some x ≡ option_map entry_of o →
    event_by o p id time values ≡ shown_by x p id time values ∷ []
some_event None x p id time values is = let no : Some x ≡ None = is in absurd (cc)
some_event (Some w) x p id time values is =
    let same : x ≡ entry_of w = (cc) in
    ap (λ (e : Entry). shown_by e p id time values ∷ []) (sym same)

pub no_event :
    (o : Option WireType) (p : Pools) (id time : ℕ) (values : List Value) → None ≡ option_map entry_of o →
    event_by o p id time values ≡ []
no_event None p id time values is = refl
no_event (Some w) p id time values is = let no : None ≡ Some (entry_of w) = is in absurd (cc)

-- of a frame that is an event, where its wire id has a schema, and where it has none
pub frame_event :
    (f : DecodedFrame) {id : WireTypeId} {time : ℕ} {values : Vec FieldValue Global} {vs : List FieldValue} {x : Entry}
    (types : map.FinMap nat_cmp WireType) (strings stacks : map.FinMap nat_cmp (List ℕ)) →
    f ≡ frames.Event id time values → Some x ≡ option_map entry_of (map.get types id.0) → vs ≡ values.items →
    events_in types strings stacks (item_of f)
    ≡ shown_by x (record { strings = strings; stacks = stacks }) id.0 time (views vs) ∷ []
frame_event f {id} {time} {values} {vs} {x} types strings stacks is found same =
    ap (λ (g : DecodedFrame). events_in types strings stacks (item_of g)) is
    ∙ some_event (map.get types id.0) x (record { strings = strings; stacks = stacks }) id.0 time (views values.items)
    found
    ∙ ap
    (λ (l : List FieldValue).
    shown_by x (record { strings = strings; stacks = stacks }) id.0 time (views l) ∷ []) (sym same)

-- a frame of a wire id that has no schema is no event
pub frame_no_event :
    (f : DecodedFrame) {id : WireTypeId} {time : ℕ} {values : Vec FieldValue Global}
    (types : map.FinMap nat_cmp WireType) (strings stacks : map.FinMap nat_cmp (List ℕ)) →
    f ≡ frames.Event id time values → None ≡ option_map entry_of (map.get types id.0) →
    events_in types strings stacks (item_of f) ≡ []
frame_no_event f {id} {time} {values} types strings stacks is none =
    ap (λ (g : DecodedFrame). events_in types strings stacks (item_of g)) is
    ∙ no_event (map.get types id.0) (record { strings = strings; stacks = stacks }) id.0 time (views values.items)
    none
