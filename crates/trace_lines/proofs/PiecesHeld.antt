-- The lines of a piece, which are held, and sent as they grow.
use Rattle.std.proofs.Common.{◌≡◌, ◌∙◌, ℕ, ◌+◌, ◌-◌, ◌<◌, ◌≤◌, List, [], ◌∷◌, ◌++◌, length, take, drop, Option, Some}
use Rattle.std.proofs.Common.{None, Result, Ok, Err, IsErr, OnOk, refl, sym, ap, subst, append_assoc, append-nil, arith}
use Rattle.std.proofs.Common.{string_bytes, String, Global}
use Rattle.std.proofs.lemmas.List.{take-append-drop}
use Rattle.std.specs.FinMap as map
use Rattle.std.specs.Option.{option_map}
use Rattle.std.specs.Ordering.{nat_cmp}
use Rattle.std.specs.declared.io.ErrorKind.{ErrorKind}
use Rattle.trace_values.specs.Number.{AreBytes}
use Rattle.trace_values.specs.Sending.{Account, TookOnly}
use Rattle.trace_values.specs.Values.{owned_reader, AreFields}
use Rattle.trace_values.proofs.OptionsAndBytes.{some_is}
use Rattle.trace_values.proofs.TwoStepsOfWriter.{TookOnly-none, TookOnly-join}
use Rattle.trace_wire.specs.Frames.{Event}
use Rattle.trace_wire.specs.Registries.{entry_under}
use Rattle.trace_wire.specs.Schemas.{Entry, Field, WireType, types_of}
use Rattle.trace_wire.specs.WireTypes.{entry_of}
use Rattle.trace_wire.specs.Runs.{Begins, EventItem}
use Rattle.dial9_trace_format.specs.Decoding.{DecoderState, Goes}
use Rattle.dial9_trace_format.specs.Feeding.{Fed, FeedState, greatest_fed}
use Rattle.dial9_trace_format.specs.Pulling.{reader_of, standing_at}
use Rattle.dial9_trace_format.specs.WholeEvents.{IsEventAt, IsWholeEvent, values_in}
use Rattle.dial9_trace_format.specs.declared.decoder.feeding.whole.WholeEvent.{WholeEvent}
use Rattle.dial9_trace_format.proofs.DecoderRuns.{at, event_step, goes_one}
use Rattle.dial9_trace_format.proofs.PullingIsFeeding.{known_pulled, pushed}
use Rattle.trace_lines.specs.Dumps.{PrintsUpToFault}
use Rattle.trace_lines.specs.Lines.{line, item_line, event_line}
use Rattle.trace_lines.specs.declared.pieces.Next.{Next}
use Rattle.trace_lines.specs.declared.pieces.Next.TheVariants.{Line, Wait, End}
use Rattle.trace_lines.specs.declared.sent_lines.Lines.{Lines}
use Rattle.trace_lines.specs.declared.sent_lines.LineFault.{LineFault}
use Rattle.trace_lines.specs.declared.sent_lines.LineFault.TheVariants.{OutOfMemory, Unsent}
use Rattle.trace_lines.specs.parts.LineLaws.{goes_after, line_joins}
use Rattle.trace_lines.specs.parts.PieceDumps.{AreNextLines, ArePieceLines, IsFed, IsLeft, LinesBegin, LinesCome}
use Rattle.trace_lines.specs.parts.PieceDumps.{CountsPiece, SendsPiece}
use Rattle.trace_lines.specs.SentLines.{Leaves}
use Rattle.trace_lines.specs.parts.SentLines.{GoOut, LineGrows, unsent}
use Rattle.trace_lines.specs.parts.NextLines.{GathersSent, HoldsNext, PutsEvent, PutsNext}
use Rattle.trace_lines.proofs.PieceLines.{known_come}
use Rattle.trace_lines.proofs.PiecesGathered.{Gathered, front_so_far, gathered_after, gathered_begins, last_one}
use Rattle.trace_lines.proofs.PiecesGathered.{no_more, none_yet, nothing_gathered, one_more}
use Rattle.trace_lines.proofs.PulledLines.{as_one, fed_on, known_frame}
use Rattle.trace_lines.proofs.SentParts.{from_nothing, line_held, line_not_held, not_appended, part_refused}

-- ---- an event that stands whole

-- a decoder goes over it
event_goes :
    (s : FeedState) (e : WholeEvent) (here : IsEventAt s.grammar s.kept e) → (d : DecoderState)
    × Goes owned_reader (reader_of s) d (Event e.type_id.0 e.timestamp_ns here.values ∷ [])
event_goes s e here =
    let f = Event e.type_id.0 e.timestamp_ns here.values in
    let after = drop e.len s.kept in
    let next = record s.grammar { base = e.timestamp_ns } in
    let begins : Begins owned_reader s.grammar s.kept f after = record {
      here = take e.len s.kept;
      parts = sym (take-append-drop e.len s.kept);
      frame = (here.wire_type, here.known, here.event);
    } in (
      at (reader_of s) (length s.kept - length after) 0 next s.pools,
      goes_one owned_reader (reader_of s) after f (omega arith) begins
          (event_step s.grammar next e.type_id.0 e.timestamp_ns here.values refl) refl refl,
    )

-- what was left begins with its line
event_begins :
    (s : FeedState) (e : WholeEvent) (whole : IsWholeEvent s e) → IsFed s
    → LinesBegin s [] (line (event_line e.type_id.0 e.timestamp_ns whole.at.values))
event_begins s e whole fed =
    let shown = EventItem e.type_id.0 e.timestamp_ns whole.at.values in
    let frames = Event e.type_id.0 e.timestamp_ns whole.at.values ∷ [] in
    let (d, goes) = event_goes s e whole.at in
    front_so_far s (standing_at s d) (line (item_line shown)) (record {
      come = subst (λ (t : List ℕ). LinesCome s [] (standing_at s d) t) (as_one frames shown refl)
          (known_come s whole.version d frames whole.has_version goes);
      fed = fed_on s whole.version d frames fed whole.has_version goes;
    })

-- its fields are spelled by the bytes of its values
pub event_spelled :
    {s : FeedState} {e : WholeEvent} {m : map.FinMap nat_cmp WireType} {entry : Entry} {fields : List Field}
    {bytes : List ℕ} (whole : IsWholeEvent s e) → m ≡ s.grammar.wire_types
    → Some entry ≡ entry_under m e.type_id.0 → fields ≡ entry.fields → bytes ≡ values_in s.kept e
    → AreFields owned_reader (types_of fields) bytes whole.at.values
event_spelled {s} {e} {m} {entry} {fields} {bytes} whole same found fields_are bytes_are =
    let known = whole.at in
    let vs = known.values in
    let entry_is : entry ≡ entry_of known.wire_type =
    some_is entry (entry_of known.wire_type) (found
    ∙ ap (λ (x : map.FinMap nat_cmp WireType). entry_under x e.type_id.0) same
    ∙ ap (option_map entry_of) known.known) in
    let is : fields ≡ known.wire_type.shape.fields = fields_are ∙ ap (λ (x : Entry). x.fields) entry_is in
    subst (λ (x : List ℕ). AreFields owned_reader (types_of fields) x vs) (sym bytes_are)
    (subst (λ (x : List Field). AreFields owned_reader (types_of x) (values_in s.kept e) vs) (sym is) known.spelled)

-- ---- the next lines

-- that of an event
event_put :
    {W : Type 0} (told : W → Account) (s t : Lines W) (old new : FeedState) (e : WholeEvent)
    (r : Result Next LineFault) (whole : IsWholeEvent old e) → IsFed old
    → PutsEvent (LineGrows told) e whole.at.values s t old new r → PutsNext told s t old new r
event_put told s t old new e (Ok next) whole fed (is, grows, pulls) =
    let shown = EventItem e.type_id.0 e.timestamp_ns whole.at.values in
    let text = line (item_line shown) in (
      text,
      subst (AreNextLines old new text) (sym is)
          (known_frame old new whole.version shown fed whole.has_version
          (known_pulled old new (Ok (Some shown)) whole.version fed.works whole.has_version pulls)),
      grows,
    )
event_put told s t old new e (Err fault) whole fed grows =
    (line (event_line e.type_id.0 e.timestamp_ns whole.at.values), event_begins old e whole fed, grows)

-- the same where nothing was read before
pub event_put_then :
    {W : Type 0} (told : W → Account) (s t : Lines W) {old mid : Fed} (new : FeedState) (e : WholeEvent)
    (r : Result Next LineFault) → mid ≡ old → IsWholeEvent old.state e → IsFed old.state
    → ((whole : IsWholeEvent mid.state e)
    → PutsEvent (LineGrows told) e whole.at.values s t mid.state new r) → PutsNext told s t old.state new r
event_put_then told s t {old} {mid} new e r same whole fed puts =
    let whole_then = subst (λ (f : Fed). IsWholeEvent f.state e) (sym same) whole in
    let fed_then = subst (λ (f : Fed). IsFed f.state) (sym same) fed in
    subst (λ (f : Fed). PutsNext told s t f.state new r) same
    (event_put told s t mid.state new e r whole_then fed_then (puts whole_then))

-- those of the frame that was pulled
pub lines_put :
    {W : Type 0} (told : W → Account) (s : Lines W) (l : String Global) (old new : FeedState) (next : Next)
    → string_bytes s.line ≡ [] → AreNextLines old new (string_bytes l) next
    → PutsNext told s (record s { line = l }) old new (Ok next)
lines_put told s l old new next none are =
    let held = string_bytes s.held in
    let text = string_bytes l in (
      text,
      are,
      record {
        same_writer = refl;
        bytes = record {
          sent = [];
          took = TookOnly-none (told s.out.now);
          is = ap (λ (x : List ℕ). (held ++ x) ++ text) none ∙ ap (λ (x : List ℕ). x ++ text) (append-nil held);
        };
      },
    )

-- none, where a growth was refused
pub lines_refused :
    {W : Type 0} (told : W → Account) (s : Lines W) (l : String Global) (old new : FeedState) → IsFed old
    → PutsNext told s (record s { line = l }) old new (Err OutOfMemory)
lines_refused told s l old new fed = (
  [],
  nothing_gathered old [] [] fed (λ i. omega arith) refl,
  record {
    same_writer = refl;
    bytes = part_refused (told s.out.now) (string_bytes s.held) (string_bytes s.line) [];
  },
)

-- what was left begins with them
next_begins : (old new : FeedState) (text : List ℕ) (next : Next) → AreNextLines old new text next
    → LinesBegin old [] text
next_begins old new text Line (come, fed, shorter) = front_so_far old new text (record { come = come; fed = fed })
next_begins old new text Wait (come, waiting) =
    front_so_far old new text (record { come = come; fed = waiting.fed })
next_begins old new text (End status) ends = λ more fits.
    (status, [], subst (λ (x : List ℕ). IsLeft old ([] ++ more) status x) (sym (append-nil text)) (ends more))

-- nothing more is appended, of which what is there may be sent
pub nothing_more :
    {W : Type 0} (told : W → Account) (s m t : Lines W) (old new : FeedState) (next : Next)
    → PutsNext told s m old new (Ok next) → LineGrows told m [] (Ok tt) t → PutsNext told s t old new (Ok next)
nothing_more told s m t old new next (text, are, went) more = (
  text,
  are,
  subst (λ (x : List ℕ). LineGrows told s x (Ok tt) t) (append-nil text)
      (line_joins told s m t text [] (Ok tt) went more),
)

-- or it could not be sent
pub nothing_sent :
    {W : Type 0} (told : W → Account) (s m t : Lines W) (old new : FeedState) (next : Next) (e : LineFault)
    → PutsNext told s m old new (Ok next) → LineGrows told m [] (Err e) t → PutsNext told s t old new (Err e)
nothing_sent told s m t old new next e (text, are, went) more = (
  text,
  next_begins old new text next are,
  subst (λ (x : List ℕ). LineGrows told s x (Err e) t) (append-nil text)
      (line_joins told s m t text [] (Err e) went more),
)

-- ---- and then held

-- what an answer says of lines that were to be made after the line had been cleared
abbrev pub MakesNext : {W : Type 0} → (W → Account) → Lines W → Lines W → String Global → FeedState → FeedState
    → Result Next LineFault → Type 0
MakesNext told s m l old new r = (string_bytes l ≡ []) × PutsNext told (record s { line = l }) m old new r

-- they were not made
pub next_fails :
    {W : Type 0} (told : W → Account) (s m : Lines W) (l : String Global) (old new : FeedState) (f : LineFault)
    → MakesNext told s m l old new (Err f) → HoldsNext told s m old new (Err f)
next_fails told s m l old new f (none, (text, begins, went)) =
    let held = string_bytes m.held in
    let a = told s.out.now in
    let b = told m.out.now in
    let before = string_bytes s.held in (
      text,
      begins,
      record {
        same_writer = went.same_writer;
        bytes = not_appended a b (before ++ text) (unsent m) held held f
            (from_nothing a b before text (unsent m) held (Err f) none went.bytes);
      },
    )

-- they were
pub next_held :
    {W : Type 0} (told : W → Account) (s m : Lines W) (l h : String Global) (old new : FeedState) (next : Next)
    → MakesNext told s m l old new (Ok next) → string_bytes h ≡ unsent m
    → HoldsNext told s (record m { held = h }) old new (Ok next)
next_held told s m l h old new next (none, (text, are, went)) is = (
  text,
  are,
  record {
    same_writer = went.same_writer;
    bytes = line_held is
        (from_nothing (told s.out.now) (told m.out.now) (string_bytes s.held) text (unsent m) (string_bytes m.held)
        (Ok tt) none went.bytes);
  },
)

-- they were, and then a growth was refused
pub next_not_held :
    {W : Type 0} (told : W → Account) (s m : Lines W) (l h : String Global) (old new : FeedState) (next : Next)
    → MakesNext told s m l old new (Ok next) → string_bytes h ≡ string_bytes m.held
    → HoldsNext told s (record m { held = h }) old new (Err OutOfMemory)
next_not_held told s m l h old new next (none, (text, are, went)) is = (
  text,
  next_begins old new text next are,
  record {
    same_writer = went.same_writer;
    bytes = line_not_held (string_bytes m.line) is
        (from_nothing (told s.out.now) (told m.out.now) (string_bytes s.held) text (unsent m) (string_bytes m.held)
        (Ok tt) none went.bytes);
  },
)

-- ---- line by line

-- What a turn of the loop keeps: these lines came, and what of them is not held was sent.
pub record HeldSoFar {W : Type 0} (told : W → Account) (s m : Lines W) (old now : FeedState) : Type 0 where
  pub text : List ℕ
  pub gathered : Gathered old now text
  pub out : GoOut told s m (string_bytes s.held ++ text) (string_bytes m.held) (Ok tt)
  pub counted : now.fed_len ≡ old.fed_len

-- before the first frame no lines came
pub none_held : {W : Type 0} (told : W → Account) (s : Lines W) (old : FeedState) → IsFed old
    → HeldSoFar told s s old old
none_held told s old fed = record {
  text = [];
  gathered = none_yet old [] fed refl;
  out = record {
    same_writer = refl;
    bytes = record { sent = []; took = TookOnly-none (told s.out.now); is = append-nil (string_bytes s.held) };
  };
  counted = refl;
}

-- lines go out after others
out_after :
    {W : Type 0} (told : W → Account) (s m t : Lines W) (a b : List ℕ) (r : Result (Unit {0}) LineFault)
    → GoOut told s m (string_bytes s.held ++ a) (string_bytes m.held) (Ok tt)
    → GoOut told m t (string_bytes m.held ++ b) (string_bytes t.held) r
    → GoOut told s t (string_bytes s.held ++ (a ++ b)) (string_bytes t.held) r
out_after told s m t a b r first second = record {
  same_writer = second.same_writer ∙ first.same_writer;
  bytes = goes_after (told t.out.now) (string_bytes s.held) a b (string_bytes t.held) (string_bytes t.held) r
      first.bytes second.bytes;
}

-- one line more
pub one_more_held :
    {W : Type 0} (told : W → Account) {s m : Lines W} (t : Lines W) {old now : FeedState} (new : FeedState)
    {next : Next} → next ≡ Line → HeldSoFar told s m old now → HoldsNext told m t now new (Ok next)
    → new.fed_len ≡ now.fed_len → HeldSoFar told s t old new × (length new.kept < length now.kept)
one_more_held told {s} {m} t new is h (text, are, out) same =
    let more = one_more new text {after = h.text ++ text} is h.gathered are refl in (
      record {
        text = h.text ++ text;
        gathered = more.0;
        out = out_after told s m t h.text text (Ok tt) h.out out;
        counted = same ∙ h.counted;
      },
      more.1,
    )

-- no more for now
pub no_more_held :
    {W : Type 0} (told : W → Account) {s m : Lines W} (t : Lines W) {old now : FeedState} (new : FeedState)
    {next : Next} → next ≡ Wait → HeldSoFar told s m old now → HoldsNext told m t now new (Ok next)
    → GathersSent told s t old [] new (Ok None)
no_more_held told {s} {m} t new is h (text, are, out) = (
  h.text ++ text,
  no_more new text {after = h.text ++ text} is h.gathered are refl,
  out_after told s m t h.text text (Ok tt) h.out out,
)

-- the last
pub last_held :
    {W : Type 0} (told : W → Account) {s m : Lines W} (t : Lines W) {old now : FeedState} (new : FeedState)
    {next : Next} (status : ℕ) → next ≡ End status → HeldSoFar told s m old now → HoldsNext told m t now new (Ok next)
    → GathersSent told s t old [] new (Ok (Some status))
last_held told {s} {m} t new status is h (text, are, out) = (
  h.text ++ text,
  last_one new text {after = h.text ++ text} status is h.gathered are refl,
  out_after told s m t h.text text (Ok tt) h.out out,
)

begins_after :
    (old now : FeedState) (first second : List ℕ) → LinesCome old [] now first → LinesBegin now [] second
    → LinesBegin old [] (first ++ second)
begins_after old now first second come begins = λ more fits.
    let (status, following, d) = begins more fits in (
      status,
      following,
      subst (λ (x : List ℕ). IsLeft old ([] ++ more) status x) (sym (append_assoc first second following))
          (come more status (second ++ following) d),
    )

-- a line that was not held
pub next_refused :
    {W : Type 0} (told : W → Account) {s m : Lines W} (t : Lines W) {old now : FeedState} (new : FeedState)
    (e : LineFault) → HeldSoFar told s m old now → HoldsNext told m t now new (Err e)
    → GathersSent told s t old [] new (Err e)
next_refused told {s} {m} t {old} {now} new e h (text, begins, out) = (
  h.text ++ text,
  begins_after old now h.text text h.gathered.come begins,
  out_after told s m t h.text text (Err e) h.out out,
)

-- ---- a piece

-- a piece that was refused
pub piece_refused :
    {W : Type 0} (told : W → Account) (s : Lines W) (old new : FeedState) (piece : List ℕ) → IsFed old
    → AreBytes piece → GathersSent told s s old piece new (Err OutOfMemory)
piece_refused told s old new piece fed fits = (
  [],
  nothing_gathered old piece [] fed fits refl,
  record {
    same_writer = refl;
    bytes = ([], record { sent = []; took = TookOnly-none (told s.out.now); is = refl });
  },
)

-- a piece that was pushed
pub piece_held :
    {W : Type 0} (told : W → Account) (s t : Lines W) (old mid new : FeedState) (piece : List ℕ)
    (r : Result (Option ℕ) LineFault) → mid ≡ pushed old piece → GathersSent told s t mid [] new r
    → GathersSent told s t old piece new r
piece_held told s t old mid new piece (Ok end) is (text, are, out) =
    (text, gathered_after {E = LineFault} old mid new piece text (Ok end) is are, out)
piece_held told s t old mid new piece (Err e) is (text, begins, out) =
    (text, gathered_after {E = LineFault} old mid new piece text (Err e) is begins, out)

-- the bytes of a piece that was pushed are counted, where what comes of it counts no more
pub counted_on :
    {E : Type 0} (old mid new : FeedState) (piece : List ℕ) (r : Result (Option ℕ) E)
    → old.fed_len + length piece ≤ greatest_fed → mid ≡ pushed old piece → OnOk r (new.fed_len ≡ mid.fed_len)
    → OnOk r (CountsPiece old piece new)
counted_on old mid new piece (Ok end) few is same =
    record { few = few; counted = same ∙ ap (λ (s : FeedState). s.fed_len) is }
counted_on old mid new piece (Err e) few is same = tt

-- ---- and sent

-- where what was left begins with lines, it begins with a front of them
begins_shorter :
    (old : FeedState) (piece : List ℕ) {text : List ℕ} (written following : List ℕ) → text ≡ written ++ following
    → LinesBegin old piece text → LinesBegin old piece written
begins_shorter old piece written following is begins = λ more fits.
    let (status, after, d) = begins more fits in (
      status,
      following ++ after,
      subst (λ (x : List ℕ). IsLeft old (piece ++ more) status x)
          (ap (λ (x : List ℕ). x ++ after) is ∙ append_assoc written following after) d,
    )

-- nothing was held before
from_none :
    {a b : Account} {held rest : List ℕ} (text : List ℕ) → held ≡ [] → Leaves a b (held ++ text) rest
    → Leaves a b text rest
from_none {a = a} {b = b} {rest = rest} text none left =
    subst (λ (x : List ℕ). Leaves a b (x ++ text) rest) none left

-- a fault within bytes that were to be sent
abbrev pub FailsWithin : Account → Account → List ℕ → Type 0
FailsWithin a b held = (kind : ErrorKind) × (n : ℕ) × TookOnly a b (take n held) (kind ∷ [])

-- a fault within what is held then
front_sent :
    {a b c : Account} (old : FeedState) (piece text held after : List ℕ) → LinesBegin old piece text
    → Leaves a b text (held ++ after) → FailsWithin b c held → PrintsUpToFault (LinesBegin old piece) a c
front_sent {a} {b} {c} old piece text held after begins left (kind, n, took) =
    let written = left.sent ++ take n held in
    let is : text ≡ written ++ (drop n held ++ after) =
    left.is ∙ ap (λ (x : List ℕ). left.sent ++ (x ++ after)) (sym (take-append-drop n held))
    ∙ ap (λ (x : List ℕ). left.sent ++ x) (append_assoc (take n held) (drop n held) after)
    ∙ sym (append_assoc left.sent (take n held) (drop n held ++ after)) in (
      written,
      begins_shorter old piece written (drop n held ++ after) is begins,
      kind ∷ [],
      omega arith,
      TookOnly-join a b c left.sent (take n held) [] (kind ∷ []) left.took took,
    )

-- what an error says of it
pub failed_sending :
    {E : Type 0} {a b : Account} (old new : FeedState) (piece : List ℕ) (r : Result (Option ℕ) E) → IsErr r
    → PrintsUpToFault (LinesBegin old piece) a b → SendsPiece a b old piece new r
failed_sending old new piece (Ok x) i printed = absurd cc
failed_sending old new piece (Err e) i printed = printed

-- where all lines are held, they are sent
pub all_sent :
    {W : Type 0} (told : W → Account) (s t : Lines W) {c : Account} (old new : FeedState) (piece : List ℕ)
    (end : Option ℕ) → string_bytes s.held ≡ [] → GathersSent told s t old piece new (Ok end)
    → TookOnly (told t.out.now) c (string_bytes t.held) []
    → (lines : List ℕ) × ArePieceLines old piece new lines end × TookOnly (told s.out.now) c lines []
all_sent told s t {c} old new piece end none (text, are, out) took =
    let a = told s.out.now in
    let b = told t.out.now in
    let held = string_bytes t.held in
    let left = from_none {a = a} {b = b} {rest = held} text none out.bytes in (
      text,
      are,
      subst (λ (x : List ℕ). TookOnly a c x []) (sym left.is)
          (TookOnly-join a b c left.sent held [] [] left.took took),
    )

-- or they are not
pub all_not_sent :
    {W : Type 0} (told : W → Account) (s t : Lines W) {c : Account} (old new : FeedState) (piece : List ℕ)
    (end : Option ℕ) → string_bytes s.held ≡ [] → GathersSent told s t old piece new (Ok end)
    → FailsWithin (told t.out.now) c (string_bytes t.held) → PrintsUpToFault (LinesBegin old piece) (told s.out.now) c
all_not_sent told s t old new piece end none (text, are, out) fails =
    let a = told s.out.now in
    let b = told t.out.now in
    let held = string_bytes t.held in
    let left = from_none {a = a} {b = b} {rest = held} text none out.bytes in
    front_sent old piece text held [] (gathered_begins {E = LineFault} old new piece text (Ok end) are)
    (subst (λ (x : List ℕ). Leaves a b text x) (sym (append-nil held)) left) fails

-- where a growth was refused, those that are held are sent
pub some_sent :
    {W : Type 0} (told : W → Account) (s t : Lines W) {c : Account} (old new : FeedState) (piece : List ℕ)
    → string_bytes s.held ≡ [] → GathersSent told s t old piece new (Err OutOfMemory)
    → TookOnly (told t.out.now) c (string_bytes t.held) [] → PrintsUpToFault (LinesBegin old piece) (told s.out.now) c
some_sent told s t {c} old new piece none (text, begins, out) took =
    let a = told s.out.now in
    let b = told t.out.now in
    let held = string_bytes t.held in
    let (after, bytes) = out.bytes in
    let left = from_none {a = a} {b = b} {rest = held ++ after} text none bytes in
    let written = left.sent ++ held in (
      written,
      begins_shorter old piece written after (left.is ∙ sym (append_assoc left.sent held after)) begins,
      [],
      omega arith,
      TookOnly-join a b c left.sent held [] [] left.took took,
    )

-- or they are not
pub some_not_sent :
    {W : Type 0} (told : W → Account) (s t : Lines W) {c : Account} (old new : FeedState) (piece : List ℕ)
    → string_bytes s.held ≡ [] → GathersSent told s t old piece new (Err OutOfMemory)
    → FailsWithin (told t.out.now) c (string_bytes t.held) → PrintsUpToFault (LinesBegin old piece) (told s.out.now) c
some_not_sent told s t old new piece none (text, begins, out) fails =
    let (after, bytes) = out.bytes in
    let held = string_bytes t.held in
    front_sent old piece text held after begins
    (from_none {a = told s.out.now} {b = told t.out.now} {rest = held ++ after} text none bytes) fails

-- the writer had failed
pub writer_failed :
    {W : Type 0} (told : W → Account) (s t : Lines W) (old new : FeedState) (piece : List ℕ)
    → string_bytes s.held ≡ [] → GathersSent told s t old piece new (Err Unsent)
    → PrintsUpToFault (LinesBegin old piece) (told s.out.now) (told t.out.now)
writer_failed told s t old new piece none (text, begins, out) =
    let (written, (following, is), faults, few, took) = out.bytes in (
      written,
      begins_shorter old piece written following (ap (λ (x : List ℕ). x ++ text) (sym none) ∙ is) begins,
      faults,
      few,
      took,
    )
