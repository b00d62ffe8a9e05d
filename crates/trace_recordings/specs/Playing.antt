-- What playing a script makes.
use Rattle.std.specs.Prelude.{◌≡◌, ◌≢◌, ⊤, ℕ, Bool, true, false, List, [], ◌∷◌, ◌++◌, length, Option, Some, None}
use Rattle.std.specs.Prelude.{IsSome, Result, Ok, Err, Vec, map, codes, decimal, string_bytes}
use Rattle.std.specs.Option.{option_map}
use Rattle.std.specs.List.{AllByRecursion}
use Rattle.std.specs.Ordering.{nat_cmp}
use Rattle.std.specs.BTreeMap.{insert_entry, is_at}
use Rattle.std.specs.Map.{lookup}
use Rattle.trace_values.specs.declared.leb128.error.EncodeError.{EncodeError}
use Rattle.trace_values.specs.declared.leb128.error.EncodeError.TheVariants as errors
use Rattle.trace_values.specs.IdTexts.{string_id_text, stack_id_text}
use Rattle.trace_values.specs.Values.{owned_reader}
use Rattle.trace_values.specs.ValueViews.{views}
use Rattle.trace_wire.specs.Runs.{Item}
use Rattle.trace_wire.specs.Schemas as schemas
use Rattle.trace_writer.specs.declared.encoder.call.Reply.{Reply}
use Rattle.trace_writer.specs.declared.encoder.call.Reply.TheVariants.{Done, WireId, Text, Stack, Refused}
use Rattle.trace_writer.specs.State.{EncoderView, WriterState}
use Rattle.std.specs.declared.alloc.Global.{Global}
use Rattle.trace_values.specs.Sending.{telling_list}
use Rattle.trace_writer.specs.Calls.{Action, register_existing, write_event, write_type, intern_string}
use Rattle.trace_writer.specs.Calls.{write_string_pool}
use Rattle.trace_writer.specs.Calls.{intern_stack, write_stack_pool, Answered, fresh_state, header}
use Rattle.trace_writer.specs.parts.encoder.Calls.{Does}
use Rattle.trace_writer.specs.CallLists.{Plays}
use Rattle.trace_writer.specs.Headline.{AreFaultless, IsRead, frames_played}
use Rattle.trace_writer.specs.Resume.{IsResumed}
use Rattle.dial9_trace_format.specs.Decoding.{DecoderState, DecodesAll}
use Rattle.dial9_trace_format.specs.WrittenTraces.{IsOpened}
use Rattle.trace_recordings.specs.declared.script.call.ScriptCall.{ScriptCall}
use Rattle.trace_recordings.specs.declared.script.call.ScriptCall.TheVariants.{Nothing, Define, Register, Event}
use Rattle.trace_recordings.specs.declared.script.call.ScriptCall.TheVariants.{DefineType, WriteTyped, InternString}
use Rattle.trace_recordings.specs.declared.script.call.ScriptCall.TheVariants.{InternStack, StringPool, StackPool}
use Rattle.trace_recordings.specs.declared.script.call.ScriptCall.TheVariants.{Reset, Resume, Raw, Bare}
use Rattle.trace_recordings.specs.declared.script.definitions.ScriptAnnotation.{ScriptAnnotation}
use Rattle.trace_recordings.specs.declared.script.definitions.Definition.{Definition}
use Rattle.trace_recordings.specs.declared.script.pools.PoolText.{PoolText}
use Rattle.trace_recordings.specs.declared.script.pools.PoolStack.{PoolStack}
use Rattle.trace_recordings.specs.declared.player.LineReply.{LineReply}
use Rattle.trace_recordings.specs.declared.player.LineReply.TheVariants as line_replies
use Rattle.trace_recordings.specs.declared.player.Handles.{Handles}
use Rattle.trace_recordings.specs.declared.player.Player.{Player}
use Rattle.trace_recordings.specs.declared.typed.SampleType.{SampleType}
use Rattle.trace_recordings.specs.declared.player.PlayError.{PlayError}
use Rattle.trace_recordings.specs.declared.player.PlayError.TheVariants as plays
use Rattle.trace_recordings.specs.declared.script.line_error.LineError.TheVariants as line_errors
use Rattle.trace_recordings.specs.Samples.{is_sample}
use Rattle.trace_recordings.specs.Scripts.{IsScript}

-- the error is the script's, and not want of memory
abbrev pub IsOfScript : PlayError → Type 0
IsOfScript (plays.Script error) = error.error ≢ line_errors.Memory
IsOfScript (plays.LeftOut line call) = ⊤
IsOfScript (plays.Unknown line handle) = ⊤
IsOfScript (plays.Unheld line) = ⊤
IsOfScript (plays.Headless line) = ⊤
IsOfScript (plays.Encoder error) = ⊥
IsOfScript plays.Memory = ⊥

-- ---- the line of a reply

-- a refusal: its number and name, and the field of a misfit
abbrev pub refusal_text : EncodeError → List ℕ
refusal_text errors.Conflict = codes "refused 1 Conflict"
refusal_text errors.ValueCount = codes "refused 2 ValueCount"
refusal_text (errors.Misfit field) = codes "refused 3 Misfit " ++ decimal field
refusal_text errors.TooLong = codes "refused 4 TooLong"
refusal_text errors.IdsUsedUp = codes "refused 5 IdsUsedUp"
refusal_text errors.SlotTaken = codes "refused 6 SlotTaken"
refusal_text errors.SlotUntimed = codes "refused 7 SlotUntimed"
refusal_text errors.ByteCount = codes "refused 8 ByteCount"
refusal_text errors.OutOfMemory = codes "refused 9 OutOfMemory"
refusal_text (errors.Writer kind) = codes "refused 10 Writer"
refusal_text errors.Failed = codes "refused 11 Failed"

-- what a call of the encoder answered
abbrev pub answer_text : Reply → List ℕ
answer_text Done = codes "done"
answer_text (WireId id) = codes "wire " ++ decimal id.0
answer_text (Text id) = string_id_text id.0
answer_text (Stack id) = stack_id_text id.0
answer_text (Refused e) = refusal_text e

-- a reply, and `-` where the encoder was not called
abbrev pub reply_text : LineReply → List ℕ
reply_text line_replies.Silent = codes "-"
reply_text line_replies.Reset = codes "reset"
reply_text (line_replies.Resumed size) = codes "resume " ++ decimal size
reply_text (line_replies.Replied reply) = answer_text reply

-- a reply, and how many bytes the encoder had written after it
unfoldable pub reply_line : LineReply → ℕ → List ℕ
reply_line reply count = reply_text reply ++ codes " bytes=" ++ decimal count ++ codes "\n"

-- ---- what a call asks of an encoder

abbrev pub annotation_of : ScriptAnnotation → schemas.Annotation
annotation_of a = record { index = a.index; key = string_bytes a.key; value = string_bytes a.value }

-- the schema that a definition says
abbrev pub defined_entry : Definition → schemas.Entry
defined_entry d =
    record {
      name = string_bytes d.name;
      fields = d.fields.items;
      annotations = map annotation_of d.annotations.items;
    }

abbrev pub pool_text_of : PoolText → ℕ × List ℕ
pool_text_of e = (e.id, e.bytes.items)

abbrev pub pool_stack_of : PoolStack → ℕ × List ℕ
pool_stack_of e = (e.id, e.frames.items)

-- what a script defined, by its handles
pub record Defined : Type 0 where
  pub schemas : List (ℕ × schemas.Entry)
  pub types : List (ℕ × SampleType)

abbrev pub defined_in : Handles → Defined
defined_in h = record { schemas = h.schemas.entries; types = h.types.entries }

-- what stands under a handle
abbrev pub under : {A : Type 0} → List (ℕ × A) → ℕ → Option A
under defined handle = lookup (is_at (nat_cmp handle)) defined

-- what a call asks of an encoder, after these definitions
abbrev pub action_asked : Defined → ScriptCall → Option Action
action_asked defined (Register handle) = option_map (λ e. register_existing e) (under defined.schemas handle)
action_asked defined (Event handle time values) =
    option_map (λ e. write_event e time (views values.items)) (under defined.schemas handle)
action_asked defined (WriteTyped handle time values) =
    option_map (λ s. write_type s.slot s.schema time (views values.items)) (under defined.types handle)
action_asked defined (InternString text) = Some (intern_string (string_bytes text))
action_asked defined (InternStack frames) = Some (intern_stack frames.items)
action_asked defined (StringPool entries) = Some (write_string_pool (map pool_text_of entries.items))
action_asked defined (StackPool entries) = Some (write_stack_pool (map pool_stack_of entries.items))
action_asked defined other = None

-- the call asks something of an encoder
abbrev pub asks : ScriptCall → Bool
asks Nothing = false
asks (Define handle definition) = false
asks (DefineType handle slot definition) = false
asks Reset = false
asks Resume = false
asks (Raw bytes) = false
asks Bare = false
asks call = true

-- an encoder over a list of bytes gives this answer to what a call asks of it
abbrev pub DoesCall : Defined → EncoderView (Vec ℕ Global) → EncoderView (Vec ℕ Global) → ScriptCall → Reply → Type 0
DoesCall defined old new call reply =
    (action : Action) × (action_asked defined call ≡ Some action)
    × Does (λ v. telling_list v.items) old action reply new

-- ---- the turns of a script

-- what playing has come to: the state of the encoder, the definitions, the output and the lines of the replies
pub record Playing : Type 0 where
  pub state : WriterState
  pub defined : Defined
  pub bytes : List ℕ
  pub replies : List ℕ

-- a new encoder, whose header stands in the output
abbrev pub start : Playing
start = record { state = fresh_state; defined = record { schemas = []; types = [] }; bytes = header; replies = [] }

abbrev pub playing_of : Player → Playing
playing_of p =
    record {
      state = p.encoder.state;
      defined = defined_in p.handles;
      bytes = p.played.bytes.items;
      replies = string_bytes p.played.replies;
    }

-- the line of a reply comes after the others
abbrev pub with_reply : LineReply → Playing → Playing
with_reply reply p = record p { replies = p.replies ++ reply_line reply p.state.count }

-- the schema of a definition stands under its handle; one that stood there before goes
abbrev pub with_schema : ℕ → Definition → Playing → Playing
with_schema handle definition p =
    record p {
      defined = record p.defined {
        schemas = insert_entry nat_cmp p.defined.schemas handle (defined_entry definition);
      };
    }

-- the type of a slot and a definition stands under its handle; one that stood there before goes
abbrev pub with_type : ℕ → ℕ → Definition → Playing → Playing
with_type handle slot definition p =
    let sample : SampleType = record { slot = slot; schema = defined_entry definition } in
    record p { defined = record p.defined { types = insert_entry nat_cmp p.defined.types handle sample } }

-- the sample type of this slot and this schema stands under the handle
abbrev pub DefinesType : ℕ → ℕ → Definition → Playing → Playing → Type 0
DefinesType handle slot definition p q =
    (is_sample slot (defined_entry definition) ≡ true) × (q ≡ with_type handle slot definition p)

-- the encoder gives this answer to what a call asks of it, and what it sends comes after the output
pub record Asks (p : Playing) (call : ScriptCall) (reply : Reply) (q : Playing) : Type 0 where
  pub action : Action
  pub asked : action_asked p.defined call ≡ Some action
  pub sent : List ℕ
  pub answered : Answered p.state action reply sent q.state
  pub output : q ≡ record p { state = q.state; bytes = p.bytes ++ sent }

-- the encoder is asked, and the line of its reply comes after the others
abbrev pub IsAsked : Playing → ScriptCall → Playing → Type 0
IsAsked p call q =
    (reply : Reply) × (mid : Playing) × Asks p call reply mid × (q ≡ with_reply (line_replies.Replied reply) mid)

-- a new trace begins after the output with its header; or its writer failed, and all is as before
abbrev pub Resets : Playing → LineReply → Playing → Type 0
Resets p line_replies.Reset q = q ≡ record p { state = fresh_state; bytes = p.bytes ++ header }
Resets p (line_replies.Replied (Refused (errors.Writer kind))) q = q ≡ p
Resets p reply q = ⊥

-- ---- going on after the output

-- a decoder that has given all that stands in a trace
pub record HasReadAll (trace : List ℕ) (last : DecoderState) : Type 0 where
  pub first : DecoderState
  pub opened : IsOpened trace first
  pub shown : List Item
  pub all : DecodesAll owned_reader first last shown

-- the encoder goes on where such a decoder stands, which has not failed; it has counted no bytes
pub record GoesOnAfter (trace : List ℕ) (x : WriterState) : Type 0 where
  pub last : DecoderState
  pub read : HasReadAll trace last
  pub works : last.failure ≡ None
  pub resumed : IsResumed x last.grammar last.pools

-- no encoder goes on after a trace: its decoder has failed, or memory was wanting
abbrev pub RefusesResumption : List ℕ → EncodeError → Type 0
RefusesResumption trace errors.Failed = (last : DecoderState) × HasReadAll trace last × IsSome last.failure
RefusesResumption trace errors.OutOfMemory = ⊤
RefusesResumption trace error = ⊥

-- an encoder that goes on after the trace, or why there is none
abbrev pub AnswersResumption : List ℕ → Result (EncoderView (Vec ℕ Global)) EncodeError → Type 0
AnswersResumption trace (Ok encoder) = GoesOnAfter trace encoder.state
AnswersResumption trace (Err error) = RefusesResumption trace error

-- the encoder goes on after the output, whose size is told; or that was refused, and all is as before
abbrev pub Resumes : Playing → LineReply → Playing → Type 0
Resumes p (line_replies.Resumed size) q =
    GoesOnAfter p.bytes q.state × (size ≡ length p.bytes) × (q ≡ record p { state = q.state })
Resumes p (line_replies.Replied (Refused error)) q = RefusesResumption p.bytes error × (q ≡ p)
Resumes p reply q = ⊥

-- a step that answers a reply, and then the line of that reply
abbrev pub IsReplied : (Playing → LineReply → Playing → Type 0) → Playing → Playing → Type 0
IsReplied step p q = (reply : LineReply) × (mid : Playing) × step p reply mid × (q ≡ with_reply reply mid)

-- a call of a script leads from p to q
abbrev pub Turns : Playing → ScriptCall → Playing → Type 0
Turns p Nothing q = q ≡ p
Turns p (Define handle definition) q = q ≡ with_reply line_replies.Silent (with_schema handle definition p)
Turns p (DefineType handle slot definition) q =
    (mid : Playing) × DefinesType handle slot definition p mid × (q ≡ with_reply line_replies.Silent mid)
Turns p (Raw bytes) q = q ≡ with_reply line_replies.Silent (record p { bytes = p.bytes ++ bytes.items })
Turns p Bare q = q ≡ with_reply line_replies.Silent (record p { bytes = [] })
Turns p Reset q = IsReplied Resets p q
Turns p Resume q = IsReplied Resumes p q
Turns p call q = IsAsked p call q

-- calls lead from p to q, one after another
abbrev pub TurnsEach : Playing → List ScriptCall → Playing → Type 0
TurnsEach p [] q = q ≡ p
TurnsEach p (call ∷ calls) q = (mid : Playing) × Turns p call mid × TurnsEach mid calls q

-- the call puts nothing past the encoder, takes nothing away, and begins no trace
abbrev pub IsOfEncoder : ScriptCall → Type 0
IsOfEncoder Reset = ⊥
IsOfEncoder Resume = ⊥
IsOfEncoder (Raw bytes) = ⊥
IsOfEncoder Bare = ⊥
IsOfEncoder call = Unit {0}

-- The output is the header and what a new encoder sends where it answers calls so one after another; and where its
-- writer never failed, a reader takes exactly the frames of the accepted calls.
pub record IsWritten (last : Playing) : Type 0 where
  pub actions : List Action
  pub replies : List Reply
  pub sent : List ℕ
  pub plays : Plays fresh_state actions replies sent last.state
  pub bytes : last.bytes ≡ header ++ sent
  pub read : AreFaultless replies → IsRead fresh_state sent (frames_played fresh_state actions replies) last.state

-- the text is a script, whose calls on a new encoder make the bytes and the replies
pub record IsPlayed (text bytes replies : List ℕ) : Type 0 where
  pub calls : List ScriptCall
  pub script : IsScript calls text
  pub last : Playing
  pub turns : TurnsEach start calls last
  pub written : AllByRecursion IsOfEncoder calls → IsWritten last
  pub same_bytes : bytes ≡ last.bytes
  pub same_replies : replies ≡ last.replies
