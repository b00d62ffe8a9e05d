-- The lines of what a decoder that is fed gives, frame by frame.
use Rattle.std.proofs.Common.{◌≡◌, ◌⊎◌, ℕ, ◌+◌, ◌<◌, List, [], ◌∷◌, ◌++◌, length, Option, Some, None, Result, Ok, Err}
use Rattle.std.proofs.Common.{IfOk, IfSome, OnOk, refl, sym, ap, subst, ◌∙◌, append-nil, arith, inl, inr}
use Rattle.std.proofs.lemmas.List.{length-append}
use Rattle.trace_values.specs.Number.{AreBytes}
use Rattle.trace_values.specs.Values.{owned_reader}
use Rattle.trace_values.proofs.FixedWidths.{AreBytes-right}
use Rattle.trace_wire.specs.Frames.{Frame}
use Rattle.trace_wire.specs.Runs.{Item, items}
use Rattle.dial9_trace_format.specs.declared.failure.Failure.{Failure}
use Rattle.dial9_trace_format.specs.declared.failure.Failure.TheVariants as failures
use Rattle.dial9_trace_format.specs.declared.decoder.error.DecodeError.{DecodeError}
use Rattle.dial9_trace_format.specs.declared.decoder.error.DecodeErrorKind.{DecodeErrorKind}
use Rattle.dial9_trace_format.specs.declared.decoder.error.DecodeErrorKind.TheVariants as error_kinds
use Rattle.dial9_trace_format.specs.Decoding.{DecoderState, StartsWith, rest_of, error_of, Goes, FailsBy}
use Rattle.dial9_trace_format.specs.Feeding.{FeedState, HasVersion}
use Rattle.dial9_trace_format.specs.Pulling.{reader_of, standing_at, PullsFrame, PullsFew, PullsNoHeader, PullsNext}
use Rattle.dial9_trace_format.specs.Pulling.{Pulls}
use Rattle.dial9_trace_format.proofs.DecoderRuns.{goes_position, next_goes, item_shorter}
use Rattle.dial9_trace_format.proofs.PullingIsFeeding.{known_pulled, same_failure}
use Rattle.trace_lines.specs.Lines.{line, item_line, first_line, no_header_line, stopped_line, conflict_line}
use Rattle.trace_lines.specs.Dumps.{item_lines}
use Rattle.trace_lines.specs.parts.PieceDumps.{LinesCome, LinesEnd, IsFed, IsWaiting, AppendsEnd, AppendsFirst}
use Rattle.trace_lines.specs.parts.PieceDumps.{PulledLines, AreNextLines, StuckLines}
use Rattle.trace_lines.specs.declared.pieces.Next.{Next}
use Rattle.trace_lines.specs.declared.pieces.Next.TheVariants.{Line, Wait, End}
use Rattle.trace_lines.proofs.PieceLines.{come_further, end_further, known_come, known_skips, known_conflict}
use Rattle.trace_lines.proofs.PieceLines.{first_comes, no_header_ends, stuck_ends}

-- ---- a decoder that knows the version

-- it keeps bytes then
pub fed_on :
    (s : FeedState) (v : ℕ) (d : DecoderState) (frames : List Frame) → IsFed s → s.version ≡ Some v →
    Goes owned_reader (reader_of s) d frames → IsFed (standing_at s d)
fed_on s v d frames f e g = record {
  works = f.works;
  fits = AreBytes-right g.core.here (rest_of d) (subst AreBytes g.core.parts f.fits);
  counted = omega (
    arith,
    f.counted,
    ap length g.core.parts,
    length-append g.core.here (rest_of d),
    goes_position owned_reader (reader_of s) d frames g,
  );
  begins = λ none. absurd (let x : Some v ≡ None = sym e ∙ none in cc);
}

-- the line of the one item of frames
pub as_one : (frames : List Frame) (shown : Item) → items frames ≡ shown ∷ []
    → item_lines (items frames) ≡ line (item_line shown)
as_one frames shown e = ap item_lines e ∙ append-nil (line (item_line shown))

-- the line of a frame comes
pub known_frame :
    (s new : FeedState) (v : ℕ) (shown : Item) → IsFed s → s.version ≡ Some v → PullsFrame s new (Ok (Some shown)) →
    LinesCome s [] new (line (item_line shown)) × IsFed new × (length new.kept < length s.kept)
known_frame s new v shown f e (d, next, is) =
    let g = next_goes owned_reader (reader_of s) d shown next in
    let come : LinesCome s [] (standing_at s d) (line (item_line shown)) =
    subst (λ (t : List ℕ). LinesCome s [] (standing_at s d) t) (as_one g.0 shown g.2) (known_come s v d g.0 e g.1) in
    subst (λ (n : FeedState). LinesCome s [] n (line (item_line shown)) × IsFed n × (length n.kept < length s.kept))
    (sym is)
    (come, fed_on s v d g.0 f e g.1, item_shorter owned_reader (reader_of s) d g.0 shown g.1 g.2)

known_wait :
    (s new : FeedState) (v : ℕ) → IsFed s → s.version ≡ Some v → PullsFrame s new (Ok None) →
    LinesCome s [] new [] × IsWaiting new
known_wait s new v f e (d, (steps, none), is) =
    let fed = fed_on s v d steps.0 f e steps.1 in
    subst (λ (n : FeedState). LinesCome s [] n [] × IsWaiting n) (sym is) (
      known_skips s v d steps.0 e steps.1 steps.2,
      record {
        fed = fed;
        few = λ unknown. absurd (let x : Some v ≡ None = sym e ∙ unknown in cc);
        none = λ version known. none;
      },
    )

ends_by :
    (s : FeedState) {v : ℕ} {m : DecoderState} (d : DecoderState) {frames : List Frame} (f : Failure) {e : DecodeError}
    (status : ℕ)
    (text : List ℕ) → s.version ≡ Some v → Goes owned_reader (reader_of s) m frames × (items frames ≡ []) →
    FailsBy owned_reader m d f → e ≡ error_of (s.position + d.position) f → AppendsEnd e.pos e.kind status [] text →
    LinesEnd s [] status text
ends_by s {v} {m} d {frames} (failures.Conflict id) status text known (g, none) c error a =
    let told : AppendsEnd (s.position + d.position) (error_kinds.Conflict id) status [] text =
    subst (λ (x : DecodeError). AppendsEnd x.pos x.kind status [] text) error a in
    subst (λ (n : ℕ). LinesEnd s [] n text) (sym told.0)
    (subst (LinesEnd s [] 3) (sym told.1) (known_conflict s v m d frames id known g none c))
ends_by s d failures.OutOfMemory status text known steps l error a =
    absurd (subst (λ (x : DecodeError). AppendsEnd x.pos x.kind status [] text) error a)

known_end :
    (s new : FeedState) (v : ℕ) (e : DecodeError) (status : ℕ) (text : List ℕ) → s.version ≡ Some v →
    PullsFrame s new (Err e) → AppendsEnd e.pos e.kind status [] text → LinesEnd s [] status text
known_end s new v e status text known (d, f, (m, h, steps, fails, told), error, is) a =
    ends_by s d f status text known (steps.1, steps.2)
    (subst (λ (x : Failure). FailsBy owned_reader m d x) (sym (same_failure d.position f h told)) fails) error a

known_lines :
    (s new : FeedState) (v : ℕ) (frame : Result (Option Item) DecodeError) (text : List ℕ) (next : Next) → IsFed s →
    s.version ≡ Some v → PullsFrame s new frame → PulledLines frame [] text next → AreNextLines s new text next
known_lines s new v (Ok (Some shown)) text Line f e p t =
    let k = known_frame s new v shown f e p in
    (subst (LinesCome s [] new) (sym t) k.0, k.1, k.2)
known_lines s new v (Ok (Some shown)) text Wait f e p t = absurd t
known_lines s new v (Ok (Some shown)) text (End status) f e p t = absurd t
known_lines s new v (Ok None) text Line f e p t = absurd t
known_lines s new v (Ok None) text Wait f e p t =
    let k = known_wait s new v f e p in
    (subst (LinesCome s [] new) (sym t) k.0, k.1)
known_lines s new v (Ok None) text (End status) f e p t = absurd t
known_lines s new v (Err x) text Line f e p t = absurd t
known_lines s new v (Err x) text Wait f e p t = absurd t
known_lines s new v (Err x) text (End status) f e p t = known_end s new v x status text e p t

-- ---- the first line before them

-- the lines of a frame, after what stood there before
appended_end :
    (place : ℕ) (kind : DecodeErrorKind) (status : ℕ) (old text : List ℕ) → AppendsEnd place kind status old text →
    (t : List ℕ) × (text ≡ old ++ t) × AppendsEnd place kind status [] t
appended_end place (error_kinds.Conflict id) status old text (s, t) = (line (conflict_line place id.0), t, (s, refl))
appended_end place error_kinds.NoHeader status old text (s, t) = (line no_header_line, t, (s, refl))
appended_end place (error_kinds.UnknownTypeId id) status old text a = absurd a
appended_end place (error_kinds.NoFrame tag) status old text a = absurd a
appended_end place error_kinds.TruncatedEvent status old text a = absurd a
appended_end place error_kinds.TruncatedDelta status old text a = absurd a
appended_end place error_kinds.TimestampOverflow status old text a = absurd a
appended_end place error_kinds.TruncatedPrefix status old text a = absurd a
appended_end place error_kinds.TruncatedOptional status old text a = absurd a
appended_end place error_kinds.TruncatedValue status old text a = absurd a
appended_end place error_kinds.TruncatedReset status old text a = absurd a
appended_end place error_kinds.OutOfMemory status old text a = absurd a
appended_end place error_kinds.InputTooLong status old text a = absurd a

appended :
    (frame : Result (Option Item) DecodeError) (old text : List ℕ) (next : Next) → PulledLines frame old text next →
    (t : List ℕ) × (text ≡ old ++ t) × PulledLines frame [] t next
appended (Ok (Some shown)) old text Line t = (line (item_line shown), t, refl)
appended (Ok (Some shown)) old text Wait t = absurd t
appended (Ok (Some shown)) old text (End status) t = absurd t
appended (Ok None) old text Line t = absurd t
appended (Ok None) old text Wait t = ([], t ∙ sym (append-nil old), refl)
appended (Ok None) old text (End status) t = absurd t
appended (Err x) old text Line t = absurd t
appended (Err x) old text Wait t = absurd t
appended (Err x) old text (End status) t = appended_end x.pos x.kind status old text t

-- the lines of a decoder that knows the version, after the first line
begun_lines :
    (s new : FeedState) (v : ℕ) (t : List ℕ) (next : Next) →
    LinesCome s [] (record s { version = Some v }) (line (first_line v)) →
    AreNextLines (record s { version = Some v }) new t next → AreNextLines s new (line (first_line v) ++ t) next
begun_lines s new v t Line first n =
    (come_further s (record s { version = Some v }) new [] [] (line (first_line v)) t first n.0, n.1, n.2)
begun_lines s new v t Wait first n =
    (come_further s (record s { version = Some v }) new [] [] (line (first_line v)) t first n.0, n.1)
begun_lines s new v t (End status) first n =
    end_further s (record s { version = Some v }) [] [] (line (first_line v)) t status first n

-- the first line stands there where the version became known, and else nothing
abbrev pub FirstPart : Option ℕ → Option ℕ → List ℕ → Type 0
FirstPart before after text = AppendsFirst before after [] text

part_of_known : (o after : Option ℕ) (before : List ℕ) (v : ℕ) → o ≡ Some v → FirstPart o after before → before ≡ []
part_of_known (Some w) after before v e h = h
part_of_known None after before v e h = absurd cc

part_of_unknown : (o after : Option ℕ) (before : List ℕ) → o ≡ None → after ≡ None → FirstPart o after before
    → before ≡ []
part_of_unknown None None before e a h = h
part_of_unknown None (Some v) before e a h = absurd cc
part_of_unknown (Some w) after before e a h = absurd cc

part_of_first :
    (o after : Option ℕ) (before : List ℕ) (v : ℕ) → o ≡ None → after ≡ Some v → FirstPart o after before →
    before ≡ line (first_line v)
part_of_first None (Some w) before v e a h = h ∙ ap (λ (n : ℕ). line (first_line n)) (let x : w ≡ v = cc in x)
part_of_first None None before v e a h = absurd cc
part_of_first (Some w) after before v e a h = absurd cc

pulled_version : (s new : FeedState) (v : ℕ) (frame : Result (Option Item) DecodeError) → s.version ≡ Some v
    → PullsFrame s new frame → new.version ≡ Some v
pulled_version s new v (Ok shown) e p = ap (λ (x : FeedState). x.version) p.2 ∙ e
pulled_version s new v (Err x) e p = ap (λ (x : FeedState). x.version) p.4 ∙ e

-- ---- any decoder

-- nothing is appended where no header is known yet
waits_for_header :
    (s : FeedState) (frame : Result (Option Item) DecodeError) (text : List ℕ) (next : Next) → IsFed s →
    PullsFew s s frame → PulledLines frame [] text next → AreNextLines s s text next
waits_for_header s (Ok (Some shown)) text next f few t = absurd (let x = few.none in cc)
waits_for_header s (Ok None) text Line f few t = absurd t
waits_for_header s (Ok None) text Wait f few t = (
  subst (LinesCome s [] s) (sym t) (λ more status rest d. d),
  record {
    fed = f;
    few = λ _. few.few;
    none = λ v known. absurd (let x : Some v ≡ None = sym known ∙ few.unknown in cc);
  },
)
waits_for_header s (Ok None) text (End status) f few t = absurd t
waits_for_header s (Err e) text next f few t = absurd (let x = few.none in cc)

no_header_lines :
    (s new : FeedState) (frame : Result (Option Item) DecodeError) (text : List ℕ) (next : Next) →
    PullsNoHeader s new frame → PulledLines frame [] text next → AreNextLines s new text next
no_header_lines s new (Ok shown) text next n t = absurd (let x = n.error in cc)
no_header_lines s new (Err e) text Line n t = absurd t
no_header_lines s new (Err e) text Wait n t = absurd t
no_header_lines s new (Err e) text (End status) n t =
    let is : e ≡ record { pos = 0; kind = error_kinds.NoHeader } = (let x = n.error in cc) in
    let told : AppendsEnd 0 error_kinds.NoHeader status [] text =
    subst (λ (x : DecodeError). AppendsEnd x.pos x.kind status [] text) is t in
    subst (λ (k : ℕ). LinesEnd s [] k text) (sym told.0)
    (subst (LinesEnd s [] 1) (sym told.1) (no_header_ends s n.unknown n.enough n.headless))

header_starts : (o : Option ℕ) (bytes : List ℕ) (v : ℕ) → o ≡ None → HasVersion o bytes v → StartsWith bytes v
header_starts None bytes v e h = h
header_starts (Some w) bytes v e h = absurd cc

next_by :
    {s new : FeedState} (o : Option ℕ) {frame : Result (Option Item) DecodeError} (before text : List ℕ)
    (next : Next) → s.version ≡ o → IsFed s → Pulls s new frame → FirstPart s.version new.version before →
    PulledLines frame before text next → AreNextLines s new text next
next_by {s} {new} (Some v) {frame} before text next e f p first t =
    let none = part_of_known s.version new.version before v e first in
    known_lines s new v frame text next f e (known_pulled s new frame v f.works e p)
    (subst (λ (b : List ℕ). PulledLines frame b text next) none t)
next_by {s} {new} None {frame} before text next e f p first t = by_case (p.next f.works)
  where
    by_case : PullsFew s new frame ⊎ (PullsNoHeader s new frame ⊎ PullsNext s new frame)
        → AreNextLines s new text next
    by_case (inl few) =
        let same = few.same in
        let none = part_of_unknown s.version new.version before e (ap (λ (x : FeedState). x.version) same ∙ e)
        first in
        subst (λ (n : FeedState). AreNextLines s n text next) (sym same)
        (waits_for_header s frame text next f (subst (λ (n : FeedState). PullsFew s n frame) same few)
        (subst (λ (b : List ℕ). PulledLines frame b text next) none t))
    by_case (inr (inl bare)) =
        let none =
        part_of_unknown s.version new.version before e (ap (λ (x : FeedState). x.version) bare.failed ∙ e) first in
        no_header_lines s new frame text next bare (subst (λ (b : List ℕ). PulledLines frame b text next) none t)
    by_case (inr (inr n)) =
        let v = n.version in
        let begun = record s { version = Some v } in
        let is = part_of_first s.version new.version before v e (pulled_version begun new v frame refl n.frame) first
        in
        let fed : IsFed begun = record {
          works = f.works;
          fits = f.fits;
          counted = f.counted;
          begins = λ none. absurd (let x : Some v ≡ None = none in cc);
        } in
        let (more, text_is, others) = appended frame before text next t in
        let lines = known_lines begun new v frame more next fed refl n.frame others in
        let starts = header_starts s.version s.kept v e n.known in
        subst (λ (x : List ℕ). AreNextLines s new x next)
        (sym (text_is ∙ ap (λ (b : List ℕ). b ++ more) is))
        (begun_lines s new v more next (first_comes s v e (f.begins e) starts) lines)

-- the lines of the next frame, after the first line where the header was read with it
pub next_lines :
    (s new : FeedState) (frame : Result (Option Item) DecodeError) (before text : List ℕ) (next : Next) → IsFed s →
    Pulls s new frame → FirstPart s.version new.version before → PulledLines frame before text next →
    AreNextLines s new text next
next_lines s new frame before text next f p first t = next_by s.version before text next refl f p first t

-- the same as it is appended
pub first_as :
    (o p a b : Option ℕ) (old new : List ℕ) → o ≡ p → a ≡ b → old ≡ [] → AppendsFirst o a old new → FirstPart p b new
first_as o p a b old new e f none h =
    subst (λ (x : Option ℕ). AppendsFirst x b [] new) e
    (subst (λ (x : Option ℕ). AppendsFirst o x [] new) f (subst (λ (x : List ℕ). AppendsFirst o a x new) none h))

-- the next frame's lines, where no growth was refused
pub next_ok :
    {E : Type 0} (s new : FeedState) (frame : Result (Option Item) DecodeError) (before text : List ℕ)
    (r : Result Next E) → IsFed s → Pulls s new frame → FirstPart s.version new.version before →
    IfOk r (PulledLines frame before text) → IfOk r (AreNextLines s new text)
next_ok s new frame before text (Ok next) f p first t = next_lines s new frame before text next f p first t
next_ok s new frame before text (Err e) f p first t = t

-- what holds of what a call answered, where it answered this
pub was_ok : {E : Type 0} (P : Next → Type 0) (r : Result Next E) (next : Next) → r ≡ Ok next → IfOk r P → P next
was_ok P (Ok it) next e h = subst P (let same : it ≡ next = cc in same) h
was_ok P (Err e) next x h = absurd cc

-- the last line after the lines so far, where no frame comes of what is kept
pub with_stuck :
    (old new : FeedState) (lines text : List ℕ) (next : Next) → AreNextLines old new lines Wait
    → StuckLines new lines text next → AreNextLines old new text next
with_stuck old new lines text Line h stuck = absurd stuck
with_stuck old new lines text Wait h stuck = subst (λ (x : List ℕ). AreNextLines old new x Wait) (sym stuck) h
with_stuck old new lines text (End status) h (e, stuck, is, appended) =
    subst (λ (n : ℕ). LinesEnd old [] n text) (sym is)
    (subst (LinesEnd old [] 2) (sym appended)
    (end_further old new [] [] lines (line (stopped_line new.position)) 2 h.0 (stuck_ends new e stuck)))

-- the same, where no growth was refused
pub stuck_ok :
    {E : Type 0} (old new : FeedState) (lines text : List ℕ) (r : Result Next E) → AreNextLines old new lines Wait
    → IfOk r (StuckLines new lines text) → IfOk r (AreNextLines old new text)
stuck_ok old new lines text (Ok next) h stuck = with_stuck old new lines text next h stuck
stuck_ok old new lines text (Err e) h stuck = tt

-- ---- the count of bytes

count_of_frame : (s new : FeedState) (frame : Result (Option Item) DecodeError) → PullsFrame s new frame
    → new.fed_len ≡ s.fed_len
count_of_frame s new (Ok shown) p = ap (λ (x : FeedState). x.fed_len) p.2
count_of_frame s new (Err e) p = ap (λ (x : FeedState). x.fed_len) p.4

count_if_works :
    (s new : FeedState) (frame : Result (Option Item) DecodeError)
    → PullsFew s new frame ⊎ (PullsNoHeader s new frame ⊎ PullsNext s new frame) → new.fed_len ≡ s.fed_len
count_if_works s new frame (inl few) = ap (λ (x : FeedState). x.fed_len) few.same
count_if_works s new frame (inr (inl bare)) = ap (λ (x : FeedState). x.fed_len) bare.failed
count_if_works s new frame (inr (inr n)) = count_of_frame (record s { version = Some n.version }) new frame n.frame

count_by :
    (fault : Option DecodeError) {s new : FeedState} {frame : Result (Option Item) DecodeError} → s.fault ≡ fault
    → Pulls s new frame → new.fed_len ≡ s.fed_len
count_by None {s} {new} {frame} works p = count_if_works s new frame (p.next works)
count_by (Some e) {s} {new} {frame} failed p =
    ap (λ (x : FeedState). x.fed_len)
    (subst (λ (o : Option DecodeError). IfSome o (λ f. (frame ≡ Err f) × (new ≡ s))) failed p.again).1

-- a frame that is pulled counts no bytes
pub pulls_count : {s new : FeedState} {frame : Result (Option Item) DecodeError} → Pulls s new frame
    → new.fed_len ≡ s.fed_len
pulls_count {s} p = count_by s.fault refl p

-- what holds whatever a call answered
pub on_ok : {A E P : Type 0} (r : Result A E) → P → OnOk r P
on_ok (Ok it) p = p
on_ok (Err e) p = tt
