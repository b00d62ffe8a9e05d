-- The turns of a script, one after another.
use Rattle.std.proofs.Common.{◌≡◌, ℕ, List, [], ◌∷◌, ◌++◌, Option, Some, None, Result, Ok, Err, OnOk, IfOk, IfErr}
use Rattle.std.proofs.Common.{IfSome, Vec, refl, sym, ap, subst, append-nil, append_assoc, ◌∙◌}
use Rattle.std.specs.Option.{IsSome}
use Rattle.std.specs.declared.alloc.Global.{Global}
use Rattle.std.specs.List.{AllByRecursion}
use Rattle.trace_values.specs.declared.leb128.error.EncodeError.{EncodeError}
use Rattle.trace_values.specs.declared.leb128.error.EncodeError.TheVariants as errors
use Rattle.trace_values.specs.Values.{owned_reader}
use Rattle.trace_values.proofs.OptionsAndBytes.{none_some}
use Rattle.trace_wire.specs.Runs.{Item}
use Rattle.trace_writer.specs.declared.encoder.call.Reply.{Reply}
use Rattle.trace_writer.specs.State.{EncoderView, WriterState}
use Rattle.trace_writer.specs.Resume.{IsResumed}
use Rattle.dial9_trace_format.specs.declared.failure.Failure.{Failure}
use Rattle.dial9_trace_format.specs.Decoding.{DecoderState, DecodesAll}
use Rattle.dial9_trace_format.specs.WrittenTraces.{IsOpened}
use Rattle.trace_writer.specs.Calls.{Action, fresh_state, header}
use Rattle.trace_writer.specs.CallLists.{Plays}
use Rattle.trace_writer.specs.Headline.{FreshHeadline}
use Rattle.trace_recordings.specs.declared.script.definitions.Definition.{Definition}
use Rattle.trace_recordings.specs.declared.script.call.ScriptCall.{ScriptCall}
use Rattle.trace_recordings.specs.declared.script.call.ScriptCall.TheVariants.{Nothing, Define, Register, Event}
use Rattle.trace_recordings.specs.declared.script.call.ScriptCall.TheVariants.{DefineType, WriteTyped, InternString}
use Rattle.trace_recordings.specs.declared.script.call.ScriptCall.TheVariants.{InternStack, StringPool, StackPool}
use Rattle.trace_recordings.specs.declared.script.call.ScriptCall.TheVariants.{Reset, Resume, Raw, Bare}
use Rattle.trace_recordings.specs.declared.player.LineReply.{LineReply}
use Rattle.trace_recordings.specs.declared.player.LineReply.TheVariants.{Replied, Silent}
use Rattle.trace_recordings.specs.declared.player.PlayError.{PlayError}
use Rattle.trace_recordings.specs.declared.typed.SampleType.{SampleType}
use Rattle.trace_wire.specs.Schemas.{Entry}
use Rattle.trace_recordings.specs.Playing.{AnswersResumption, DefinesType, HasReadAll, RefusesResumption, Playing}
use Rattle.trace_recordings.specs.Playing.{with_reply, with_type, start, Asks, Resets, Resumes, IsAsked, IsOfEncoder}
use Rattle.trace_recordings.specs.Playing.{IsWritten, Turns, TurnsEach}

-- where the encoder was asked, this is the turn of the call
turns_asked : (p : Playing) (call : ScriptCall) (q : Playing) → IsAsked p call q → Turns p call q
turns_asked p Nothing q h = absurd (none_some h.2.action h.2.asked)
turns_asked p (Define handle definition) q h = absurd (none_some h.2.action h.2.asked)
turns_asked p (Register handle) q h = h
turns_asked p (Event handle time values) q h = h
turns_asked p (DefineType handle slot definition) q h = absurd (none_some h.2.action h.2.asked)
turns_asked p (WriteTyped handle time values) q h = h
turns_asked p (InternString text) q h = h
turns_asked p (InternStack frames) q h = h
turns_asked p (StringPool entries) q h = h
turns_asked p (StackPool entries) q h = h
turns_asked p Reset q h = absurd (none_some h.2.action h.2.asked)
turns_asked p Resume q h = absurd (none_some h.2.action h.2.asked)
turns_asked p (Raw bytes) q h = absurd (none_some h.2.action h.2.asked)
turns_asked p Bare q h = absurd (none_some h.2.action h.2.asked)

-- the encoder was asked, and then its reply replied, where that was done
pub asked_turn :
    (r : Result (Unit {0}) PlayError) (p : Playing) (call : ScriptCall) (reply : Reply) (mid q : Playing) →
    Asks p call reply mid → OnOk r (q ≡ with_reply (Replied reply) mid) → OnOk r (Turns p call q)
asked_turn (Ok u) p call reply mid q asks replied = turns_asked p call q (reply, mid, asks, replied)
asked_turn (Err e) p call reply mid q asks replied = tt

-- a new trace was begun, and then the reply replied, where that was done
pub reset_turn :
    (r : Result (Unit {0}) PlayError) (p : Playing) (call : ScriptCall) (reply : LineReply) (mid q : Playing) →
    call ≡ Reset → Resets p reply mid → OnOk r (q ≡ with_reply reply mid) → OnOk r (Turns p call q)
reset_turn (Ok u) p call reply mid q is resets replied =
    subst (λ (c : ScriptCall). Turns p c q) (sym is) (reply, mid, resets, replied)
reset_turn (Err e) p call reply mid q is resets replied = tt

-- what a decoder that has given all becomes, by whether it has failed
becomes :
    (trace : List ℕ) (last : DecoderState) (o : Option Failure) (r : Result (EncoderView (Vec ℕ Global)) EncodeError)
    →
    HasReadAll trace last → last.failure ≡ o →
    IfOk r (λ e. IsResumed e.state last.grammar last.pools) → IfSome o (λ f. r ≡ Err errors.Failed) →
    (o ≡ None → IfErr r (λ e. e ≡ errors.OutOfMemory)) → AnswersResumption trace r
becomes trace last None (Ok e) read is resumed failed refused =
    record { last = last; read = read; works = is; resumed = resumed }
becomes trace last (Some f) (Ok e) read is resumed failed refused = absurd (cc)
becomes trace last None (Err e) read is resumed failed refused = subst (RefusesResumption trace)
    (sym (refused refl)) tt
becomes trace last (Some f) (Err e) read is resumed failed refused =
    let has_failed : IsSome last.failure = rw is refl in
    let why : e ≡ errors.Failed = cc in
    subst (RefusesResumption trace) (sym why) (last, read, has_failed)

-- what a resumption does is its answer
pub resumption_answers :
    (trace : List ℕ) (first last : DecoderState) (shown : List Item)
    (r : Result (EncoderView (Vec ℕ Global)) EncodeError) → IsOpened trace first →
    DecodesAll owned_reader first last shown →
    IfOk r (λ e. IsResumed e.state last.grammar last.pools) → IfSome last.failure (λ f. r ≡ Err errors.Failed) →
    (last.failure ≡ None → IfErr r (λ e. e ≡ errors.OutOfMemory)) → AnswersResumption trace r
resumption_answers trace first last shown r opened all resumed failed refused =
    becomes trace last last.failure r (record { first = first; opened = opened; shown = shown; all = all }) refl
    resumed
    failed refused

-- the refusal, of the output
pub resumption_refused :
    (trace bytes : List ℕ) (r : Result (EncoderView (Vec ℕ Global)) EncodeError) (e : EncodeError) → trace ≡ bytes →
    r ≡ Err e → AnswersResumption trace r → RefusesResumption bytes e
resumption_refused trace bytes r e same is answers =
    let here : AnswersResumption bytes r = subst (λ (x : List ℕ). AnswersResumption x r) same answers in
    subst (AnswersResumption bytes) is here

-- an encoder went on after the output, and then the reply replied, where that was done
pub resume_turn :
    (r : Result (Unit {0}) PlayError) (p : Playing) (call : ScriptCall) (reply : LineReply) (mid q : Playing) →
    call ≡ Resume → Resumes p reply mid → OnOk r (q ≡ with_reply reply mid) → OnOk r (Turns p call q)
resume_turn (Ok u) p call reply mid q is resumes replied =
    subst (λ (c : ScriptCall). Turns p c q) (sym is) (reply, mid, resumes, replied)
resume_turn (Err e) p call reply mid q is resumes replied = tt

-- a type was kept, and then that replied
pub type_turn :
    {call : ScriptCall} (r : Result (Unit {0}) PlayError) (p : Playing) (handle slot : ℕ) (definition : Definition)
    (mid q : Playing) → call ≡ DefineType handle slot definition → DefinesType handle slot definition p mid →
    OnOk r (q ≡ with_reply Silent mid) → OnOk r (Turns p call q)
type_turn (Ok u) p handle slot definition mid q is defines replied =
    subst (λ (c : ScriptCall). Turns p c q) (sym is) (mid, defines, replied)
type_turn (Err e) p handle slot definition mid q is defines replied = tt

-- nothing was done yet
pub started :
    (state : WriterState) (schemas : List (ℕ × Entry)) (types : List (ℕ × SampleType)) (bytes replies : List ℕ) →
    state ≡ fresh_state → schemas ≡ [] → types ≡ [] → bytes ≡ header → replies ≡ [] →
    record {
      state = state;
      defined = record { schemas = schemas; types = types };
      bytes = bytes;
      replies = replies;
    } ≡ start
started state schemas types bytes replies s d t b r = rw (s, d, t, b, r)

-- one more call
pub TurnsEach-append :
    (p q r : Playing) (calls : List ScriptCall) (call : ScriptCall) → TurnsEach p calls q → Turns q call r →
    TurnsEach p (calls ++ call ∷ []) r
TurnsEach-append p q r [] call each turn = (r, subst (λ (x : Playing). Turns x call r) each turn, refl)
TurnsEach-append p q r (c ∷ calls) call each turn =
    (each.0, each.1, TurnsEach-append each.0 q r calls call each.2 turn)

-- what an encoder sends from p to q, where nothing is put past it
pub record Written (p q : Playing) : Type 0 where
  pub actions : List Action
  pub replies : List Reply
  pub sent : List ℕ
  pub plays : Plays p.state actions replies sent q.state
  pub bytes : q.bytes ≡ p.bytes ++ sent

-- before it, the encoder and the output stay as they are
quiet : (p q r : Playing) → q.state ≡ p.state → q.bytes ≡ p.bytes → Written q r → Written p r
quiet p q r state bytes later = record {
  actions = later.actions;
  replies = later.replies;
  sent = later.sent;
  plays = subst (λ (x : WriterState). Plays x later.actions later.replies later.sent r.state) state later.plays;
  bytes = later.bytes ∙ ap (λ (b : List ℕ). b ++ later.sent) bytes;
}

-- before it, the encoder is asked
asked : (p : Playing) (call : ScriptCall) (q r : Playing) → IsAsked p call q → Written q r → Written p r
asked p call q r h after =
    let later : Written h.1 r =
    quiet h.1 q r (ap (λ (x : Playing). x.state) h.3) (ap (λ (x : Playing). x.bytes) h.3) after in
    let output : h.1.bytes ≡ p.bytes ++ h.2.sent = ap (λ (x : Playing). x.bytes) h.2.output in
    record {
      actions = h.2.action ∷ later.actions;
      replies = h.0 ∷ later.replies;
      sent = h.2.sent ++ later.sent;
      plays = (h.1.state, h.2.sent, later.sent, refl, h.2.answered, later.plays);
      bytes = later.bytes ∙ (ap (λ (b : List ℕ). b ++ later.sent) output ∙ append_assoc p.bytes h.2.sent later.sent);
    }

typed :
    (p mid q : Playing) (handle slot : ℕ) (definition : Definition) → DefinesType handle slot definition p mid →
    q ≡ with_reply Silent mid → q ≡ with_reply Silent (with_type handle slot definition p)
typed p mid q handle slot definition defines replied = replied ∙ ap (with_reply Silent) defines.1

-- before it, a turn
turn : (p : Playing) (call : ScriptCall) (q r : Playing) → IsOfEncoder call → Turns p call q → Written q r
    → Written p r
turn p Nothing q r plain h later = quiet p q r (ap (λ (x : Playing). x.state) h) (ap (λ (x : Playing). x.bytes) h)
    later
turn p (Define handle definition) q r plain h later =
    quiet p q r (ap (λ (x : Playing). x.state) h) (ap (λ (x : Playing). x.bytes) h) later
turn p (Register handle) q r plain h later = asked p (Register handle) q r h later
turn p (Event handle time values) q r plain h later = asked p (Event handle time values) q r h later
turn p (DefineType handle slot definition) q r plain h later =
    quiet p q r (ap (λ (x : Playing). x.state) (typed p h.0 q handle slot definition h.1 h.2))
    (ap (λ (x : Playing). x.bytes) (typed p h.0 q handle slot definition h.1 h.2)) later
turn p (WriteTyped handle time values) q r plain h later = asked p (WriteTyped handle time values) q r h later
turn p (InternString text) q r plain h later = asked p (InternString text) q r h later
turn p (InternStack frames) q r plain h later = asked p (InternStack frames) q r h later
turn p (StringPool entries) q r plain h later = asked p (StringPool entries) q r h later
turn p (StackPool entries) q r plain h later = asked p (StackPool entries) q r h later
turn p Reset q r plain h later = absurd plain
turn p Resume q r plain h later = absurd plain
turn p (Raw bytes) q r plain h later = absurd plain
turn p Bare q r plain h later = absurd plain

-- all turns
turns :
    (p : Playing) (calls : List ScriptCall) (q : Playing) → AllByRecursion IsOfEncoder calls → TurnsEach p calls q →
    Written p q
turns p [] q plain h = record {
  actions = [];
  replies = [];
  sent = [];
  plays = (refl, ap (λ (x : Playing). x.state) h);
  bytes = ap (λ (x : Playing). x.bytes) h ∙ sym (append-nil p.bytes);
}
turns p (call ∷ calls) q plain h = turn p call h.0 q plain.0 h.1 (turns h.0 calls q plain.1 h.2)

-- from the start
pub written_by :
    FreshHeadline → (calls : List ScriptCall) (last : Playing) → TurnsEach start calls last →
    AllByRecursion IsOfEncoder calls → IsWritten last
written_by headline calls last each plain =
    let w = turns start calls last plain each in
    record {
      actions = w.actions;
      replies = w.replies;
      sent = w.sent;
      plays = w.plays;
      bytes = w.bytes;
      read = λ faultless. headline w.actions w.replies w.sent last.state w.plays faultless;
    }
