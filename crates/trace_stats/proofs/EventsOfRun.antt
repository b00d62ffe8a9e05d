-- The events of a run that are counted, one frame after another.
use Rattle.std.proofs.Common.{◌≡◌, ◌<◌, ◌-◌, ℕ, Bool, true, false, List, [], ◌∷◌, ◌++◌, length, map as list_map}
use Rattle.std.proofs.Common.{Option, Some, None, unwrap_or, Result, Ok, Err, get_or, refl, sym, ap, ap₂, subst, ◌∙◌}
use Rattle.std.proofs.Common.{append-nil, append_assoc, OnOk}
use Rattle.std.proofs.lemmas.List.{map-append}
use Rattle.std.specs.Prelude.{IfErr, IfSome}
use Rattle.std.specs.FinMap as map
use Rattle.std.specs.Ordering.{nat_cmp}
use Rattle.trace_values.specs.Values.{Value, owned_reader}
use Rattle.trace_wire.specs.Schemas.{WireType}
use Rattle.trace_wire.specs.Frames.{Grammar, Frame, Header, Schema, Event, Strings, Stacks, Reset, Annotations}
use Rattle.trace_wire.specs.Runs.{step, stepped, pooled, Pools, IsRun, all_of_kind, Item, items}
use Rattle.trace_wire.proofs.OneLongestRun.{items_append}
use Rattle.dial9_trace_format.specs.declared.failure.Failure.{Failure}
use Rattle.dial9_trace_format.specs.declared.decoder.error.TryForEachError.{TryForEachError}
use Rattle.dial9_trace_format.specs.declared.decoder.error.TryForEachError.TheVariants.{Decode, User}
use Rattle.dial9_trace_format.specs.declared.decoder.decoded_frame.DecodedFrame.{DecodedFrame}
use Rattle.dial9_trace_format.specs.Decoding.{DecoderState, rest_of, Goes, NextFrame}
use Rattle.dial9_trace_format.specs.DecodedFrames.{item_of, next_as}
use Rattle.dial9_trace_format.specs.ShownEvents.{ShownEvent}
use Rattle.dial9_trace_format.specs.Sinks.{event_by, events_of}
use Rattle.dial9_trace_format.proofs.DecoderRuns.{goes_nowhere, goes_further, goes_failure, item_shorter, next_goes}
use Rattle.dial9_trace_format.proofs.SinkRuns.{events_append}
use Rattle.trace_events.specs.OwnedEvents.{events_in}
use Rattle.trace_stats.specs.Events.{Counted, counted_event}
use Rattle.trace_stats.specs.Traces.{AreStatsOf}
use Rattle.trace_stats.specs.Refusals.{RefusesEvent, IsNewSchema}
use Rattle.trace_stats.specs.Runs.{counted_in, GivesCounted, AreEventsBetween, KeepsMore, CountsAll}
use Rattle.trace_stats.specs.parts.Runs.{RefusesOne, CountsThese, CountsNext, FailsAgain}
use Rattle.trace_stats.specs.declared.trace.TraceStats.{TraceStats}
use Rattle.trace_stats.specs.declared.trace.StatsError.{StatsError}
use Rattle.trace_stats.specs.declared.trace.StatsError.TheVariants.{OutOfMemory}

-- ---- the events of frames

-- headers and resets have none
hidden_none : (g : Grammar) (p : Pools) (fs : List Frame) → items fs ≡ [] → events_of g p fs ≡ []
hidden_none g p [] e = refl
hidden_none g p (Header v ∷ fs) e = hidden_none (stepped g (Header v)) (pooled p (Header v)) fs e
hidden_none g p (Schema id shape ∷ fs) e = absurd cc
hidden_none g p (Event id time vs ∷ fs) e = absurd cc
hidden_none g p (Strings entries ∷ fs) e = absurd cc
hidden_none g p (Stacks entries ∷ fs) e = absurd cc
hidden_none g p (Reset time ∷ fs) e = hidden_none (stepped g (Reset time)) (pooled p (Reset time)) fs e
hidden_none g p (Annotations id entries ∷ fs) e = absurd cc

-- an event leaves the wire types as they are
same_types :
    (a b : Grammar) (here : List ℕ) (id time : ℕ) (vs : List Value) →
    IsRun (owned_reader ∷ []) a here (Event id time vs ∷ []) b → a.wire_types ≡ b.wire_types
unfolding step
same_types a b here id time vs run =
    ap (λ (o : Option Grammar). (unwrap_or o a).wire_types) run.5 ∙ ap (λ (g : Grammar). g.wire_types) (sym run.6.1)

head_is : {x y : Item} → x ∷ [] ≡ y ∷ [] → x ≡ y
head_is {x} e = ap (λ (l : List Item). get_or l 0 x) e

-- the events that an item is at a place
abbrev pub EventsAt : DecoderState → Item → List ShownEvent
EventsAt d shown = events_in d.grammar.wire_types d.pools.strings d.pools.stacks shown

-- those of a frame that is shown are those of its item
item_events :
    (a b : DecoderState) (f : Frame) (shown : Item) → Goes owned_reader a b (f ∷ []) → items (f ∷ []) ≡ shown ∷ [] →
    events_of a.grammar a.pools (f ∷ []) ≡ EventsAt b shown
item_events a b (Header v) shown g e = absurd cc
item_events a b (Schema id shape) shown g e = subst (λ (i : Item). [] ≡ EventsAt b i) (head_is e) refl
item_events a b (Event id time vs) shown g e =
    let types = same_types a.grammar b.grammar g.core.here id time vs g.core.run in
    append-nil (event_by (map.get a.grammar.wire_types id) a.pools id time vs)
    ∙ ap₂ (λ (m : map.FinMap nat_cmp WireType) (p : Pools). event_by (map.get m id) p id time vs) types
    (sym g.core.pools)
    ∙ ap (λ (i : Item). EventsAt b i) (head_is e)
item_events a b (Strings entries) shown g e = subst (λ (i : Item). [] ≡ EventsAt b i) (head_is e) refl
item_events a b (Stacks entries) shown g e = subst (λ (i : Item). [] ≡ EventsAt b i) (head_is e) refl
item_events a b (Reset time) shown g e = absurd cc
item_events a b (Annotations id entries) shown g e = subst (λ (i : Item). [] ≡ EventsAt b i) (head_is e) refl

events_further :
    (a b : DecoderState) (fs hs : List Frame) → Goes owned_reader a b fs →
    events_of a.grammar a.pools (fs ++ hs) ≡ events_of a.grammar a.pools fs ++ events_of b.grammar b.pools hs
events_further a b fs hs g =
    events_append (all_of_kind owned_reader fs) a.grammar a.pools g.core.here fs hs b.grammar g.core.run
    ∙ ap (λ (p : Pools). events_of a.grammar a.pools fs ++ events_of b.grammar p hs) (sym g.core.pools)

next_events :
    (a mid b : DecoderState) (hidden : List Frame) (f : Frame) (shown : Item) → Goes owned_reader a mid hidden →
    items hidden ≡ [] → Goes owned_reader mid b (f ∷ []) → items (f ∷ []) ≡ shown ∷ [] →
    events_of a.grammar a.pools (hidden ++ f ∷ []) ≡ EventsAt b shown
next_events a mid b hidden f shown over none goes is =
    events_further a mid hidden (f ∷ []) over
    ∙ ap (λ (es : List ShownEvent). es ++ events_of mid.grammar mid.pools (f ∷ []))
    (hidden_none a.grammar a.pools hidden none)
    ∙ item_events mid b f shown goes is

uncounted :
    (n : ℕ) (es : List ShownEvent) →
    list_map (λ (x : Counted). x.event) (list_map (λ e. counted_event e n) es) ≡ es
uncounted n [] = refl
uncounted n (e ∷ es) = ap (λ (l : List ShownEvent). e ∷ l) (uncounted n es)

-- ---- one frame more

given_more :
    (is : List Item) (a b c : DecoderState) (es : List Counted) (shown : Item) → GivesCounted is a b es →
    NextFrame owned_reader b c (Ok (Some shown)) →
    GivesCounted (is ++ shown ∷ []) a c (es ++ counted_in b c shown)
given_more [] a b c es shown (same, none) n = (
  c,
  [],
  subst (λ (d : DecoderState). NextFrame owned_reader d c (Ok (Some shown))) (sym same) n,
  (refl, refl),
  ap (λ (l : List Counted). l ++ counted_in b c shown) none
      ∙ ap (λ (d : DecoderState). counted_in d c shown) (sym same) ∙ sym (append-nil (counted_in a c shown)),
)
given_more (i ∷ is) a b c es shown (mid, others, first, more, split) n = (
  mid,
  others ++ counted_in b c shown,
  first,
  given_more is mid b c others shown more n,
  ap (λ (l : List Counted). l ++ counted_in b c shown) split
      ∙ append_assoc (counted_in a mid i) others (counted_in b c shown),
)

nothing_between : (d : DecoderState) → AreEventsBetween d d []
nothing_between d = record {
  frames = [];
  goes = goes_nowhere owned_reader d;
  events = refl;
  bytes = (refl, refl);
}

one_more :
    (a b c : DecoderState) (es : List Counted) (shown : Item) → AreEventsBetween a b es →
    NextFrame owned_reader b c (Ok (Some shown)) → AreEventsBetween a c (es ++ counted_in b c shown)
one_more a b c es shown r (mid, over, last) =
    let fs : List Frame = over.0 ++ last.0 ∷ [] in
    let here : list_map (λ (x : Counted). x.event) (counted_in b c shown) ≡ events_of b.grammar b.pools fs =
    uncounted (c.position - b.position) (EventsAt c shown)
    ∙ sym (next_events b mid c over.0 last.0 shown over.1 over.2 last.1 last.2) in
    let these : items (r.frames ++ fs) ≡ items r.frames ++ shown ∷ [] =
    items_append r.frames fs
    ∙ ap (λ (l : List Item). items r.frames ++ l)
    (items_append over.0 (last.0 ∷ []) ∙ ap (λ (l : List Item). l ++ items (last.0 ∷ [])) over.2 ∙ last.2) in
    record {
      frames = r.frames ++ fs;
      goes = goes_further owned_reader a b c r.frames fs r.goes
          (goes_further owned_reader b mid c over.0 (last.0 ∷ []) over.1 last.1);
      events = map-append (λ (x : Counted). x.event) es (counted_in b c shown)
          ∙ ap₂ (λ (k l : List ShownEvent). k ++ l) r.events here ∙ sym (events_further a b r.frames fs r.goes);
      bytes = subst (λ (l : List Item). GivesCounted l a c (es ++ counted_in b c shown)) (sym these)
          (given_more (items r.frames) a b c es shown r.bytes (mid, over, last));
    }

-- ---- what is kept

keeps_none : (s : TraceStats) → KeepsMore [] s s
keeps_none s = λ es h. subst (λ (l : List Counted). AreStatsOf l s) (sym (append-nil es)) h

keeps_further :
    (xs ys : List Counted) (s m t : TraceStats) → KeepsMore xs s m → KeepsMore ys m t → KeepsMore (xs ++ ys) s t
keeps_further xs ys s m t first second =
    λ es h. subst (λ (l : List Counted). AreStatsOf l t) (append_assoc es xs ys) (second (es ++ xs) (first es h))

-- a frame that is an event was counted, or refused
pub event_counted :
    (r : Result (Unit {0}) StatsError) (es : List ShownEvent) (e : ShownEvent) (n : ℕ) (s t : TraceStats) →
    es ≡ e ∷ [] → OnOk r ((xs : List Counted) → AreStatsOf xs s → AreStatsOf (xs ++ counted_event e n ∷ []) t) →
    IfErr r (RefusesEvent s t) → IfErr r (λ x. x ≡ OutOfMemory → IsNewSchema e.entry s) →
    CountsThese (list_map (λ x. counted_event x n) es) s t r
event_counted (Ok u) es e n s t is added refused memory =
    subst (λ (l : List ShownEvent). KeepsMore (list_map (λ x. counted_event x n) l) s t) (sym is) added
event_counted (Err x) es e n s t is added refused memory = (
  counted_event e n,
  ap (λ (l : List ShownEvent). list_map (λ x. counted_event x n) l) is,
  record { refused = refused; memory = memory },
)

-- the schemas and the pools of a decoder, as it lends them
pub same_events :
    {W V : map.FinMap nat_cmp WireType} {S T K L : map.FinMap nat_cmp (List ℕ)} (shown : Item) (es : List ShownEvent) →
    W ≡ V → S ≡ T → K ≡ L → events_in W S K shown ≡ es → events_in V T L shown ≡ es
same_events {W} {V} {S} {T} {K} {L} shown es types strings stacks is =
    ap (λ (m : map.FinMap nat_cmp WireType). events_in m T L shown) (sym types)
    ∙ ap (λ (m : map.FinMap nat_cmp (List ℕ)). events_in W m L shown) (sym strings)
    ∙ ap (λ (m : map.FinMap nat_cmp (List ℕ)). events_in W S m shown) (sym stacks) ∙ is

-- a frame that is none changes nothing
pub none_counted :
    (es : List ShownEvent) (n : ℕ) (s : TraceStats) → es ≡ [] →
    CountsThese (list_map (λ x. counted_event x n) es) s s (Ok tt)
none_counted es n s is =
    subst (λ (l : List ShownEvent). KeepsMore (list_map (λ x. counted_event x n) l) s s) (sym is) (keeps_none s)

-- ---- the next frame

-- the next frame, whose events were counted
pub next_counted :
    {x : Option DecodedFrame} {frame : DecodedFrame} {r : Result (Unit {0}) StatsError} (old new : DecoderState)
    (s t : TraceStats) (n : ℕ) → x ≡ Some frame → n ≡ new.position - old.position → r ≡ Ok tt →
    NextFrame owned_reader old new (next_as item_of (Ok x)) →
    CountsThese (list_map (λ e. counted_event e n) (EventsAt new (item_of frame))) s t r →
    CountsNext old new s t (Ok true)
next_counted {frame = frame} old new s t n is bytes ok next counts = (
  item_of frame,
  subst (λ (o : Option DecodedFrame). NextFrame owned_reader old new (next_as item_of (Ok o))) is next,
  subst (λ (k : ℕ). KeepsMore (list_map (λ e. counted_event e k) (EventsAt new (item_of frame))) s t) bytes
      (subst (CountsThese (list_map (λ e. counted_event e n) (EventsAt new (item_of frame))) s t) ok counts),
)

-- the next frame, whose event was refused
pub next_refused :
    {x : Option DecodedFrame} {frame : DecodedFrame} {r : Result (Unit {0}) StatsError} (e : StatsError)
    (old new : DecoderState) (s t : TraceStats) {n : ℕ} → x ≡ Some frame → n ≡ new.position - old.position →
    r ≡ Err e → NextFrame owned_reader old new (next_as item_of (Ok x)) →
    CountsThese (list_map (λ e. counted_event e n) (EventsAt new (item_of frame))) s t r →
    CountsNext old new s t (Err (User e))
next_refused {frame = frame} e old new s t {n} is bytes err next counts = (
  item_of frame,
  subst (λ (o : Option DecodedFrame). NextFrame owned_reader old new (next_as item_of (Ok o))) is next,
  subst (λ (k : ℕ). RefusesOne (list_map (λ e. counted_event e k) (EventsAt new (item_of frame))) s t e) bytes
      (subst (CountsThese (list_map (λ e. counted_event e n) (EventsAt new (item_of frame))) s t) err counts),
)

-- no frame is left, and what is kept stays
pub next_none :
    {x : Option DecodedFrame} (old new : DecoderState) (s : TraceStats) → x ≡ None →
    NextFrame owned_reader old new (next_as item_of (Ok x)) → CountsNext old new s s (Ok false)
next_none old new s is next = (
  subst (λ (o : Option DecodedFrame). NextFrame owned_reader old new (next_as item_of (Ok o))) is next,
  refl,
)

-- ---- all frames

-- a decoder that had not failed has not, and the events so far were counted; of one that had failed nothing changed
abbrev pub CountsSoFar : Option Failure → DecoderState → DecoderState → TraceStats → TraceStats → Type 0
CountsSoFar None old mid s m =
    (old.failure ≡ None) × (mid.failure ≡ None) × (es : List Counted) × AreEventsBetween old mid es × KeepsMore es s m
CountsSoFar (Some f) old mid s m = (old.failure ≡ Some f) × (mid ≡ old) × (m ≡ s)

-- the next frame of a decoder, whether or not it has failed
abbrev pub Next : DecoderState → DecoderState → TraceStats → TraceStats → Result Bool (TryForEachError StatsError)
    → Type 0
Next mid new m t r =
    (mid.failure ≡ None → CountsNext mid new m t r) × IfSome mid.failure (λ (g : Failure). FailsAgain g mid new m t r)

-- before the first frame no event was counted
pub begun :
    (o : Option Failure) (d : DecoderState) (s : TraceStats) → d.failure ≡ o → CountsSoFar o d d s s
begun None d s e = (e, e, [], nothing_between d, keeps_none s)
begun (Some f) d s e = (e, refl, refl)

-- a decoder that has failed gives nothing
gives_nothing :
    (b : Bool) (f : Failure) (old mid new : DecoderState) (m t : TraceStats) → old.failure ≡ Some f → mid ≡ old →
    IfSome mid.failure (λ (g : Failure). FailsAgain g mid new m t (Ok b)) → ⊥
gives_nothing b f old mid new m t failed same again =
    subst (λ (o : Option Failure). IfSome o (λ (g : Failure). FailsAgain g mid new m t (Ok b)))
    (ap (λ (d : DecoderState). d.failure) same ∙ failed) again

-- a frame more was counted, and the loop goes on
pub went_on :
    {x : Bool} (o : Option Failure) (old mid new : DecoderState) (s m t : TraceStats) → x ≡ true →
    CountsSoFar o old mid s m → Next mid new m t (Ok x) → CountsSoFar o old new s t
went_on {x} None old mid new s m t stood (first, works, es, events, keeps) next =
    let (shown, read, more) =
    subst (λ (b : Bool). CountsNext mid new m t (Ok b)) stood (next.0 works) in
    let (frames, goes, one) = next_goes owned_reader mid new shown read in (
      first,
      goes_failure owned_reader mid new frames goes ∙ works,
      es ++ counted_in mid new shown,
      one_more old mid new es shown events read,
      keeps_further es (counted_in mid new shown) s m t keeps more,
    )
went_on {x} (Some f) old mid new s m t stood (failed, same, kept) next = absurd
    (gives_nothing x f old mid new m t failed same next.1)

-- with each frame fewer bytes are left
pub goes_shorter :
    {x : Bool} (o : Option Failure) (old mid new : DecoderState) (s m t : TraceStats) → x ≡ true →
    CountsSoFar o old mid s m → Next mid new m t (Ok x) → length (rest_of new) < length (rest_of mid)
goes_shorter {x} None old mid new s m t stood (first, works, es, events, keeps) next =
    let (shown, read, more) =
    subst (λ (b : Bool). CountsNext mid new m t (Ok b)) stood (next.0 works) in
    let (frames, goes, one) = next_goes owned_reader mid new shown read in
    item_shorter owned_reader mid new frames shown goes one
goes_shorter {x} (Some f) old mid new s m t stood (failed, same, kept) next = absurd
    (gives_nothing x f old mid new m t failed same next.1)

-- no frame is left: all were counted
pub all_counted :
    {x : Bool} (o : Option Failure) (old mid new : DecoderState) (s m t : TraceStats) → x ≡ false →
    CountsSoFar o old mid s m → (mid.failure ≡ None → CountsNext mid new m t (Ok x)) → old.failure ≡ None →
    CountsAll old new s t (Ok tt)
all_counted None old mid new s m t ended (first, works, es, events, keeps) next none =
    let (ends, same) = subst (λ (b : Bool). CountsNext mid new m t (Ok b)) ended (next works) in
    (mid, es, events, subst (KeepsMore es s) (sym same) keeps, ends)
all_counted (Some f) old mid new s m t ended (failed, same, kept) next none = absurd cc

-- the loop ends with an error: the events before it were counted
pub stopped :
    (e : TryForEachError StatsError) (o : Option Failure) (old mid new : DecoderState) (s m t : TraceStats) →
    CountsSoFar o old mid s m → (mid.failure ≡ None → CountsNext mid new m t (Err e)) → old.failure ≡ None →
    CountsAll old new s t (Err e)
stopped (Decode e) None old mid new s m t (first, works, es, events, keeps) next none =
    let (ends, same) = next works in (mid, es, events, subst (KeepsMore es s) (sym same) keeps, ends)
stopped (User e) None old mid new s m t (first, works, es, events, keeps) next none =
    let (shown, read, (c, one, refused)) = next works in (
      mid,
      m,
      es,
      c,
      events,
      keeps,
      subst (AreEventsBetween mid new) one (one_more mid mid new [] shown (nothing_between mid) read),
      refused,
    )
stopped e (Some f) old mid new s m t (failed, same, kept) next none = absurd cc
