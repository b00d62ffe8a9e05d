-- What a sink is given of a stream, from what the reader does.
use Rattle.std.proofs.Common.{◌≡◌, ◌≢◌, ℕ, ◌+◌, ◌-◌, ◌≤◌, List, [], ◌∷◌, length, drop, None, String, string_bytes}
use Rattle.std.proofs.Common.{Result, Ok, Err, IfOk, IfErr, codes, refl, sym, ap, subst, ◌∙◌, arith, inl, inr}
use Rattle.std.proofs.lemmas.List.{length-append}
use Rattle.std.specs.declared.alloc.Global.{Global}
use Rattle.trace_values.specs.Number.{AreBytes}
use Rattle.trace_values.specs.Values.{borrowed}
use Rattle.trace_values.proofs.FixedWidths.{AreBytes-right}
use Rattle.trace_wire.specs.Frames.{Grammar, empty, Frame, Schema}
use Rattle.trace_wire.specs.Runs.{Ending, Whole, Stopped, Conflict, no_pools}
use Rattle.dial9_trace_format.specs.Decoding.{DecoderState, StartsWith, new_decoder, rest_of, Goes, Conflicts}
use Rattle.dial9_trace_format.specs.Decoding.{FailsBy, error_of}
use Rattle.dial9_trace_format.specs.ShownEvents.{ShownEvent}
use Rattle.dial9_trace_format.specs.EventCauses.{CauseAt}
use Rattle.dial9_trace_format.specs.Sinks.{Takes, visiting, events_of, TakesRun, HasCause, RunsSink, never_refused}
use Rattle.dial9_trace_format.specs.declared.failure.Failure.{Failure}
use Rattle.dial9_trace_format.specs.declared.failure.Failure.TheVariants as failures
use Rattle.dial9_trace_format.specs.declared.decoder.error.DecodeError.{DecodeError}
use Rattle.dial9_trace_format.specs.declared.decoder.error.DecodeErrorKind.{DecodeErrorKind}
use Rattle.dial9_trace_format.specs.declared.decoder.error.DecodeErrorKind.TheVariants as error_kinds
use Rattle.trace_wire.specs.declared.schema.WireTypeId.{WireTypeId}
use Rattle.dial9_trace_format.proofs.DecoderRuns.{left_at, goes_inside}
use Rattle.dial9_trace_format.proofs.AtMostOneCause.{cause_is_no_frame}
use Rattle.trace_recordings.specs.declared.sink.EventCounter.{EventCounter}
use Rattle.trace_recordings.specs.Tallies.{counted_up}
use Rattle.trace_recordings.specs.Sinks.{counts, EndsAt, sink_text, IsStreamSink}

-- ---- the count

counted_more :
    (n : ℕ) (s m : EventCounter) → s.events ≡ counted_up 0 n → m.events ≡ counted_up s.events 1 →
    m.events ≡ counted_up 0 (n + 1)
counted_more n s m is more = omega (arith, is, more)

counted_from :
    (n : ℕ) (events : List ShownEvent) (s t : EventCounter) → s.events ≡ counted_up 0 n →
    Takes (visiting {S = EventCounter} {E = ⊥} counts) events s t → t.events ≡ counted_up 0 (n + length events)
counted_from n [] s t is same =
    subst (λ (x : EventCounter). x.events ≡ counted_up 0 (n + 0)) same (is ∙ ap (counted_up 0) (omega arith))
counted_from n (e ∷ events) s t is (m, one, more) =
    counted_from (n + 1) events m t (counted_more n s m is one) more ∙ ap (counted_up 0) (omega arith)

-- ---- the place

place_of :
    (old new : DecoderState) (frames : List Frame) → Goes borrowed old new frames → old.position ≤ length old.input →
    new.position ≡ length old.input - length (rest_of new)
place_of old new frames g h =
    let same : length new.input ≡ length old.input = ap (λ (d : DecoderState). length d.input) g.moved in
    omega (arith, same, left_at new.position new.input (goes_inside borrowed old new frames g h))

-- ---- the end

-- no cause stands where nothing is left
no_cause : (g : Grammar) (n : ℕ) (kind : DecodeErrorKind) → CauseAt g [] n kind → ⊥
no_cause g n error_kinds.TruncatedEvent f = cc
no_cause g n (error_kinds.UnknownTypeId id) f = cc
no_cause g n error_kinds.TruncatedDelta f = cc
no_cause g n error_kinds.TimestampOverflow f = cc
no_cause g n error_kinds.TruncatedPrefix f = cc
no_cause g n error_kinds.TruncatedOptional f = cc
no_cause g n error_kinds.TruncatedValue f = cc
no_cause g n error_kinds.TruncatedReset f = cc
no_cause g n (error_kinds.NoFrame tag) f = cc
no_cause g n (error_kinds.Conflict id) f = f
no_cause g n error_kinds.OutOfMemory f = f
no_cause g n error_kinds.NoHeader f = f
no_cause g n error_kinds.InputTooLong f = f

ends_whole :
    (input : List ℕ) (version : ℕ) (new : DecoderState) (frames : List Frame) → 5 ≤ length input →
    Goes borrowed (new_decoder input version) new frames → rest_of new ≡ [] → EndsAt input frames Whole new.position
ends_whole input version new frames inside g done = record {
  rest = rest_of new;
  last = new.grammar;
  longest = record { taken = g.core.here; parts = g.core.parts; run = g.core.run; ends = done };
  place_is = place_of (new_decoder input version) new frames g inside;
}

ends_stopped :
    (input : List ℕ) (version : ℕ) (mid new : DecoderState) (e : DecodeError) (frames : List Frame) → 5 ≤ length input
    →
    AreBytes (drop 5 input) → Goes borrowed (new_decoder input version) mid frames → HasCause mid new e →
    EndsAt input frames Stopped new.position
ends_stopped input version mid new e frames inside fits g f =
    let left : AreBytes (rest_of mid) = AreBytes-right g.core.here (rest_of mid) (subst AreBytes g.core.parts fits) in
    let some : rest_of mid ≢ [] =
    λ none. no_cause mid.grammar f.ahead e.kind
    (subst (λ (s : List ℕ). CauseAt mid.grammar s f.ahead e.kind) none f.cause) in
    let at : EndsAt input frames Stopped mid.position = record {
      rest = rest_of mid;
      last = mid.grammar;
      longest =
          record {
            taken = g.core.here;
            parts = g.core.parts;
            run = g.core.run;
            ends = (some, cause_is_no_frame mid.grammar (rest_of mid) f.ahead e.kind left f.cause);
          };
      place_is = place_of (new_decoder input version) mid frames g inside;
    } in
    subst (λ (d : DecoderState). EndsAt input frames Stopped d.position) (sym f.same) at

ends_conflict :
    (input : List ℕ) (version : ℕ) (mid new : DecoderState) (id : WireTypeId) (frames : List Frame) → 5 ≤ length input
    →
    Goes borrowed (new_decoder input version) mid frames → Conflicts borrowed mid new id →
    EndsAt input frames Conflict new.position
ends_conflict input version mid new id frames inside g x =
    let c = x.core in
    let here = goes_inside borrowed (new_decoder input version) mid frames g inside in
    let same : length mid.input ≡ length input = ap (λ (d : DecoderState). length d.input) g.moved in
    let there : new.position ≡ mid.position + length c.begins.here = ap (λ (d : DecoderState). d.position) x.failed in
    let e : length (rest_of mid) ≡ length c.begins.here + length (rest_of new) =
    ap length c.begins.parts ∙ length-append c.begins.here (rest_of new) in
    let place : new.position ≡ length input - length (rest_of new) =
    omega (arith, same, left_at mid.position mid.input here) in
    record {
      rest = rest_of mid;
      last = mid.grammar;
      longest =
          record {
            taken = g.core.here;
            parts = g.core.parts;
            run = g.core.run;
            ends = (Schema id.0 c.shape, rest_of new, c.begins, c.no_step);
          };
      place_is = (id.0, c.shape, rest_of new, c.begins, place);
    }

-- ---- the lines

made :
    {input : List ℕ} {frames : List Frame} {end : Ending} {place : ℕ} {text : List ℕ} (version count : ℕ)
    (told : List ℕ) → StartsWith input version → EndsAt input frames end place → (end ≡ Whole → told ≡ codes "ok") →
    count ≡ counted_up 0 (length (events_of empty no_pools frames)) → text ≡ sink_text count told place →
    IsStreamSink input text
made {frames = frames} {end} {place} version count told header ends whole is t = record {
  version = version;
  header = header;
  frames = frames;
  end = end;
  place = place;
  ends = ends;
  told = told;
  whole = whole;
  text_is = t ∙ ap (λ (n : ℕ). sink_text n told place) is;
}

events_counted :
    (input : List ℕ) (version : ℕ) (mid : DecoderState) (frames : List Frame) (s t : EventCounter) → s.events ≡ 0 →
    TakesRun (visiting {S = EventCounter} {E = ⊥} counts) (new_decoder input version) mid frames s t →
    t.events ≡ counted_up 0 (length (events_of empty no_pools frames))
events_counted input version mid frames s t none run =
    counted_from 0 (events_of empty no_pools frames) s t (none ∙ omega arith) run.steps
    ∙ ap (counted_up 0) (omega arith)

fails_by :
    {mid : DecoderState} {e : DecodeError} {frames : List Frame} (input : List ℕ) (version : ℕ) (new : DecoderState)
    (failure : Failure) → 5 ≤ length input → Goes borrowed (new_decoder input version) mid frames →
    e.kind ≢ error_kinds.OutOfMemory → FailsBy borrowed mid new failure → e ≡ error_of new.position failure →
    EndsAt input frames Conflict new.position
fails_by {mid} {frames = frames} input version new (failures.Conflict id) inside g some x is =
    ends_conflict input version mid new id frames inside g x
fails_by input version new failures.OutOfMemory inside g some x is =
    absurd (some (ap (λ (x : DecodeError). x.kind) is))

-- how the reader ended, and what is told of it
pub record Tells (result : Result (Unit {0}) DecodeError) (told : List ℕ) : Type 0 where
  pub whole : IfOk result (λ u. told ≡ codes "ok")
  pub memory : IfErr result (λ e. e.kind ≢ error_kinds.OutOfMemory)

-- an input that begins with a header
record Begins (input : List ℕ) (version : ℕ) : Type 0 where
  header : StartsWith input version
  inside : 5 ≤ length input
  fits : AreBytes (drop 5 input)

from_start :
    {input : List ℕ} {version : ℕ} {result : Result (Unit {0}) DecodeError} {told : List ℕ} (new : DecoderState)
    (s t : EventCounter) → Begins input version → s.events ≡ 0 →
    RunsSink (visiting {S = EventCounter} {E = ⊥} counts) (new_decoder input version) new s t (never_refused result) →
    Tells result told → IsStreamSink input (sink_text t.events told new.position)
from_start {input} {version} {result = Ok u} {told} new s t b none (frames, run, done) tells =
    let ends = ends_whole input version new frames b.inside run.goes done in
    made version t.events told b.header ends (λ w. tells.whole)
    (events_counted input version new frames s t none run) refl
from_start {input} {version} {result = Err e} {told} new s t b none (frames, mid, run, inl f) tells =
    let ends = ends_stopped input version mid new e frames b.inside b.fits run.goes f in
    made version t.events told b.header ends (λ w. absurd cc)
    (events_counted input version mid frames s t none run) refl
from_start {input} {version} {result = Err e} {told} new s t b none (frames, mid, run, inr f) tells =
    let ends = fails_by input version new f.failure b.inside run.goes tells.memory f.fails f.error in
    made version t.events told b.header ends (λ w. absurd cc)
    (events_counted input version mid frames s t none run) refl

-- a decoder right after its header
pub record IsNew (r : DecoderState) : Type 0 where
  pub starts : StartsWith r.input r.version
  pub new : r ≡ new_decoder r.input r.version
  pub inside : r.position ≤ length r.input
  pub fits : AreBytes (rest_of r)

-- what a sink is given of a stream is what is told
pub stream_sink :
    {r : DecoderState} {result : Result (Unit {0}) DecodeError} {told : List ℕ} (new : DecoderState)
    (s t : EventCounter) → IsNew r → s.events ≡ 0 →
    (r.failure ≡ None → RunsSink (visiting {S = EventCounter} {E = ⊥} counts) r new s t (never_refused result)) →
    Tells result told → IsStreamSink r.input (sink_text t.events told new.position)
stream_sink {r} {result} new s t is none runs tells =
    let begins : Begins r.input r.version = record {
      header = is.starts;
      inside = omega (arith, is.inside, ap (λ (d : DecoderState). d.position) is.new);
      fits = subst (λ (d : DecoderState). AreBytes (rest_of d)) is.new is.fits;
    } in
    let works = ap (λ (d : DecoderState). d.failure) is.new in
    let run = subst
    (λ (d : DecoderState). RunsSink (visiting {S = EventCounter} {E = ⊥} counts) d new s t (never_refused result))
    is.new (runs works) in
    from_start new s t begins none run tells

-- what holds of the text that was made, where one was
pub as_made :
    {E : Type 0} (r : Result (String Global) E) (is : List ℕ → Type 0) (text : List ℕ) → is text →
    IfOk r (λ s. string_bytes s ≡ text) → IfOk r (λ s. is (string_bytes s))
as_made (Ok s) is text x e = subst is (sym e) x
as_made (Err e) is text x y = tt
