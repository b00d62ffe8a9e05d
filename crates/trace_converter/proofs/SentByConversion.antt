-- What was sent while a run was converted.
use Rattle.std.proofs.Common.{◌≡◌, ℕ, Bool, true, false, List, [], ◌∷◌, ◌++◌, Option, Some, None, Result, Ok}
use Rattle.std.proofs.Common.{unwrap_or, if◌then◌else◌, refl, sym, ap, subst, ◌∙◌, append-nil}
use Rattle.std.specs.declared.io.ErrorKind.{ErrorKind}
use Rattle.trace_values.specs.Sending.{Account, Took}
use Rattle.trace_values.specs.Values.{Value, pooled_text, pooled_stack, list, map as pairs_map, Items, no_items, item}
use Rattle.trace_values.specs.Values.{Pairs, no_pairs, pair}
use Rattle.trace_wire.specs.Frames.{Frame}
use Rattle.trace_wire.specs.Schemas.{Annotation, Entry}
use Rattle.trace_wire.specs.Runs.{Item, SchemaItem, EventItem, StringsItem, StacksItem, AnnotationsItem, items, Pools}
use Rattle.trace_writer.specs.declared.encoder.call.Reply.{Reply}
use Rattle.trace_writer.specs.State.{WriterState, EncoderView}
use Rattle.trace_writer.specs.Calls.{Key, Action, write, intern_string, intern_stack, known_as, next_id, wire_id_of}
use Rattle.trace_writer.specs.Calls.{type_key, is_new_text, is_new_stack, frames_of, reply_faults}
use Rattle.trace_writer.specs.Headline.{IsRead}
use Rattle.trace_writer.specs.Joining.{NothingIsRead, ReadJoins, TraceGoesOn, IsTraceOf}
use Rattle.trace_writer.specs.Outcomes.{Outcome, replied_done, replied_text, replied_stack}
use Rattle.trace_writer.specs.Showing.{TextShows, StackShows, EventShows, NewEventShows, entry_items, annotation_items}
use Rattle.dial9_trace_format.specs.Accounts.{NothingIsTaken, AccountsJoin}
use Rattle.dial9_trace_format.specs.ShownEvents.{ShownEvent}
use Rattle.dial9_trace_format.specs.Sinks.{Takes}
use Rattle.dial9_trace_format.specs.WrittenTraces.{ItemsJoin}
use Rattle.trace_converter.specs.declared.rules.Rule.{Rule}
use Rattle.trace_converter.specs.declared.converter.Converter.{Converter}
use Rattle.trace_converter.specs.declared.converter.ConvertError.{ConvertError}
use Rattle.trace_converter.specs.Rules.{rule_for, new_entry, old_values}
use Rattle.trace_converter.specs.Conversions.{ConvertsValue, ConvertsItems, ConvertsPairs, ConvertsValues}
use Rattle.trace_converter.specs.Conversions.{ConvertsEvent}
use Rattle.trace_converter.specs.Steps.{Converts, ConvertsBy}
use Rattle.trace_converter.specs.Written.{events_among, converted_item, MapsBy, AreMapped, WritesRun, RunIsWritten}

-- what the proofs take of the library
pub record RunLaws : Type 0 where
  pub nothing : NothingIsTaken
  pub joined : AccountsJoin
  pub none : NothingIsRead
  pub reads : ReadJoins
  pub goes_on : TraceGoesOn
  pub items_join : ItemsJoin
  pub text : TextShows
  pub stack : StackShows
  pub event : EventShows
  pub new_event : NewEventShows

-- From one state to the next these bytes were taken, and are read as these frames, which show these events.
record Sends {W : Type 0} (told : W → Account) (old new : EncoderView W) (shown : List Item) : Type 0 where
  sent : List ℕ
  frames : List Frame
  took : Took (told old.writer) (told new.writer) sent []
  read : IsRead old.state sent frames new.state
  shows : events_among (items frames) ≡ shown

-- ---- events among items

among_both : (a b : List Item) → events_among (a ++ b) ≡ events_among a ++ events_among b
among_both [] b = refl
among_both (EventItem id time values ∷ a) b = ap (λ (xs : List Item). EventItem id time values ∷ xs) (among_both a b)
among_both (SchemaItem entry ∷ a) b = among_both a b
among_both (StringsItem entries ∷ a) b = among_both a b
among_both (StacksItem entries ∷ a) b = among_both a b
among_both (AnnotationsItem id entries ∷ a) b = among_both a b

-- a schema shows none
no_event_of_annotations : (id : ℕ) (notes : List Annotation) → events_among (annotation_items id notes) ≡ []
no_event_of_annotations id [] = refl
no_event_of_annotations id (a ∷ notes) = refl

no_event_of_entry : (id : ℕ) (e : Entry) → events_among (entry_items id e) ≡ []
no_event_of_entry id e = no_event_of_annotations id e.annotations

-- ---- one call, and one after another

sends_nothing : {W : Type 0} {told : W → Account} {old new : EncoderView W} → RunLaws → new ≡ old
    → Sends told old new []
sends_nothing {W} {told} {old} laws same = subst (λ (x : EncoderView W). Sends told old x []) (sym same) (record {
  sent = [];
  frames = [];
  took = laws.nothing (told old.writer);
  read = laws.none old.state;
  shows = refl;
})

sends_both :
    {W : Type 0} {told : W → Account} {old mid new : EncoderView W} {first rest : List Item} → RunLaws
    → Sends told old mid first → Sends told mid new rest → Sends told old new (first ++ rest)
sends_both {W} {told} {old} {mid} {new} {first} {rest} laws a b = record {
  sent = a.sent ++ b.sent;
  frames = a.frames ++ b.frames;
  took = laws.joined (told old.writer) (told mid.writer) (told new.writer) a.sent b.sent [] [] a.took b.took;
  read = laws.reads old.state mid.state new.state a.sent b.sent a.frames b.frames a.read b.read;
  shows = ap events_among (laws.items_join a.frames b.frames) ∙ among_both (items a.frames) (items b.frames)
      ∙ ap (λ (xs : List Item). xs ++ events_among (items b.frames)) a.shows
      ∙ ap (λ (xs : List Item). first ++ xs) b.shows;
}

-- a call that was accepted
call_sends :
    {W R : Type 0} {told : W → Account} {old new : EncoderView W} {shown : List Item} (a : Action) (reply : R → Reply)
    (r : R) → reply_faults (reply r) ≡ [] → events_among (items (frames_of old.state a)) ≡ shown
    → Outcome told old a reply (Ok r) new → Sends told old new shown
call_sends {W} {R} {told} {old} {new} a reply r none shows h = record {
  sent = h.sent;
  frames = frames_of old.state a;
  took = subst (λ (faults : List ErrorKind). Took (told old.writer) (told new.writer) h.sent faults) none h.took.took;
  read = h.read;
  shows = shows;
}

-- ---- values

text_shows_none : RunLaws → (x : WriterState) (s : List ℕ) → events_among (items (frames_of x (intern_string s))) ≡ []
text_shows_none laws x s = ap events_among (laws.text x s) ∙ by (is_new_text x s)
  where
    by : (b : Bool) → events_among (if b then StringsItem ((x.next_text, s) ∷ []) ∷ [] else []) ≡ []
    by true = refl
    by false = refl

stack_shows_none : RunLaws → (x : WriterState) (s : List ℕ) → events_among (items (frames_of x (intern_stack s))) ≡ []
stack_shows_none laws x s = ap events_among (laws.stack x s) ∙ by (is_new_stack x s)
  where
    by : (b : Bool) → events_among (if b then StacksItem ((x.next_stack, s) ∷ []) ∷ [] else []) ≡ []
    by true = refl
    by false = refl

mutual
  value_sends :
      {W : Type 0} {told : W → Account} (p : Pools) (v w : Value) (old new : EncoderView W) → RunLaws
      → ConvertsValue told p v old w new → Sends told old new []
  value_sends p (pooled_text id) w old new laws (text, i, is, same, h) =
      call_sends (intern_string text) replied_text i refl (text_shows_none laws old.state text) h
  value_sends p (pooled_stack id) w old new laws (stack, i, is, same, h) =
      call_sends (intern_stack stack) replied_stack i refl (stack_shows_none laws old.state stack) h
  value_sends p (list vs) w old new laws (later, is, h) = items_send p vs later old new laws h
  value_sends p (pairs_map vs) w old new laws (later, is, h) = pairs_send p vs later old new laws h
  value_sends p v w old new laws h = sends_nothing laws h.1

  items_send :
      {W : Type 0} {told : W → Account} (p : Pools) (vs ws : Items) (old new : EncoderView W) → RunLaws
      → ConvertsItems told p vs old ws new → Sends told old new []
  items_send p no_items no_items old new laws h = sends_nothing laws h
  items_send p (item v vs) (item w ws) old new laws (mid, first, rest) =
      sends_both laws (value_sends p v w old mid laws first) (items_send p vs ws mid new laws rest)
  items_send p no_items (item w ws) old new laws h = absurd h
  items_send p (item v vs) no_items old new laws h = absurd h

  pairs_send :
      {W : Type 0} {told : W → Account} (p : Pools) (vs ws : Pairs) (old new : EncoderView W) → RunLaws
      → ConvertsPairs told p vs old ws new → Sends told old new []
  pairs_send p no_pairs no_pairs old new laws h = sends_nothing laws h
  pairs_send p (pair x y vs) (pair v w ws) old new laws (first, mid, key, value, rest) =
      sends_both laws (value_sends p x v old first laws key)
      (sends_both laws (value_sends p y w first mid laws value) (pairs_send p vs ws mid new laws rest))
  pairs_send p no_pairs (pair v w ws) old new laws h = absurd h
  pairs_send p (pair x y vs) no_pairs old new laws h = absurd h

values_send :
    {W : Type 0} {told : W → Account} (p : Pools) (vs ws : List Value) (old new : EncoderView W) → RunLaws
    → ConvertsValues told p vs old ws new → Sends told old new []
values_send p [] [] old new laws h = sends_nothing laws h
values_send p (v ∷ vs) (w ∷ ws) old new laws (mid, first, rest) =
    sends_both laws (value_sends p v w old mid laws first) (values_send p vs ws mid new laws rest)
values_send p [] (w ∷ ws) old new laws h = absurd h
values_send p (v ∷ vs) [] old new laws h = absurd h

-- ---- events

event_shown :
    RunLaws → (x : WriterState) (k : Key) (e : Entry) (time : ℕ) (values : List Value)
    → events_among (items (frames_of x (write k e time values))) ≡ EventItem (wire_id_of x k e) time values ∷ []
event_shown laws x k e time values = by (known_as x k e) refl
  where
    by : (o : Option ℕ) → known_as x k e ≡ o
        → events_among (items (frames_of x (write k e time values)))
        ≡ EventItem (unwrap_or o (next_id k x.next)) time values ∷ []
    by (Some id) known = ap events_among (laws.event x k e time values id known)
    by None known =
        let id = next_id k x.next in
        ap events_among (laws.new_event x k e time values known)
        ∙ among_both (entry_items id e) (EventItem id time values ∷ [])
        ∙ ap (λ (xs : List Item). xs ++ EventItem id time values ∷ []) (no_event_of_entry id e)

-- an event that was converted
event_sends :
    {W : Type 0} {told : W → Account} {rule : Rule} {e : ShownEvent} (old new : EncoderView W) → RunLaws
    → (c : ConvertsEvent told rule e old new) → Sends told old new (converted_item c ∷ [])
event_sends {W} {told} {rule} {e} old new laws c =
    let key = type_key rule.slot in
    let entry = new_entry rule c.kept in
    sends_both laws (values_send e.pools (old_values c.kept) c.values old c.mid laws c.converted)
    (call_sends (write key entry e.time c.values) replied_done tt refl
    (event_shown laws c.mid.state key entry e.time c.values) c.written)

-- ---- a run

-- what was sent for events, and which these became
abbrev Maps : {W : Type 0} → (W → Account) → List Rule → List ShownEvent → EncoderView W → EncoderView W → Type 0
Maps told rules events old new =
    (shown : List Item) × AreMapped told rules events old shown new × Sends told old new shown

-- one event, and then the others
one_then :
    {W : Type 0} (told : W → Account) (rules : List Rule) (events : List ShownEvent) (e : ShownEvent)
    (old mid new : EncoderView W) → RunLaws → ConvertsBy told (rule_for rules e.name) e old (Ok tt) mid
    → Maps told rules events mid new → Maps told rules (e ∷ events) old new
one_then {W} told rules events e old mid new laws step (rest, mapped, sends) = by (rule_for rules e.name) step
  where
    later : EncoderView W → List Item → Type 0
    later = λ (m : EncoderView W) (xs : List Item). AreMapped told rules events m xs new

    by : (o : Option Rule) → ConvertsBy told o e old (Ok tt) mid
        → (shown : List Item) × MapsBy told o e old shown later × Sends told old new shown
    by None (is, same) = (
      rest,
      subst (λ (x : EncoderView W). later x rest) same mapped,
      sends_both laws (sends_nothing laws same) sends,
    )
    by (Some rule) c = (
      converted_item c ∷ rest,
      (mid, rest, c, refl, mapped),
      sends_both laws (event_sends old mid laws c) sends,
    )

run_maps :
    {W : Type 0} {told : W → Account} (events : List ShownEvent) (s t : Converter W) → RunLaws
    → Takes (Converts told) events s t → Maps told s.rules.now events s.encoder t.encoder
run_maps {W} [] s t laws same =
    let stays = ap (λ (c : Converter W). c.encoder) (sym same) in ([], (refl, stays), sends_nothing laws stays)
run_maps {W} {told} (e ∷ events) s t laws (m, (step, beside), rest) =
    one_then told s.rules.now events e s.encoder m.encoder t.encoder laws step
    (subst (λ (rules : List Rule). Maps told rules events m.encoder t.encoder)
    (ap (λ (c : Converter W). c.rules.now) beside) (run_maps events m t laws rest))

-- so all of it was written
pub run_is_written : {W : Type 0} (told : W → Account) → RunLaws → RunIsWritten told
run_is_written told laws events s t trace frames takes before =
    let (shown, mapped, sends) = run_maps events s t laws takes in
    record {
      sent = sends.sent;
      more = sends.frames;
      shown = shown;
      took = sends.took;
      longer = laws.goes_on s.encoder.state t.encoder.state trace sends.sent (trace ++ sends.sent) frames sends.frames
          before refl sends.read;
      shows = sends.shows;
      mapped = mapped;
    }
