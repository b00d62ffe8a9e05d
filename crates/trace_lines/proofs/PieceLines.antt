-- The lines of an input that comes in pieces.
use Rattle.std.proofs.Common.{◌≡◌, ◌≢◌, ◌⊎◌, ℕ, ◌+◌, ◌-◌, ◌<◌, ◌≤◌, List, [], ◌∷◌, ◌++◌, length, drop, Option, Some}
use Rattle.std.proofs.Common.{zero, suc, None, refl, sym, ap, subst, ◌∙◌, append-nil, append_assoc, arith, inl, inr}
use Rattle.std.proofs.lemmas.List.{length-append}
use Rattle.trace_values.specs.Number.{AreBytes}
use Rattle.trace_values.specs.Values.{owned_reader}
use Rattle.trace_wire.specs.declared.schema.WireTypeId.{WireTypeId}
use Rattle.trace_wire.specs.Frames.{Grammar, empty, Frame, Header, Schema, Event, Strings, Stacks, Reset, Annotations}
use Rattle.trace_wire.specs.Frames.{header_length}
use Rattle.trace_wire.specs.Runs.{step, Begins, NoFrame, Ending, Whole, Stopped, Conflict, IsLongest, items, Pools}
use Rattle.trace_wire.specs.Runs.{no_pools, pools_after}
use Rattle.trace_wire.proofs.OneLongestRun.{Begins-unique, uncons, no_step_more, at_once, longest_exists}
use Rattle.dial9_trace_format.specs.Decoding.{DecoderState, StartsWith, IsHeadless, rest_of, Goes, Conflicts}
use Rattle.dial9_trace_format.specs.declared.decoder.error.DecodeError.{DecodeError}
use Rattle.dial9_trace_format.specs.Feeding.{FeedState, new_feed}
use Rattle.dial9_trace_format.specs.Sticking.{IsStuckAt}
use Rattle.dial9_trace_format.specs.Pulling.{reader_of, standing_at}
use Rattle.dial9_trace_format.proofs.DecoderRuns.{goes_position}
use Rattle.dial9_trace_format.proofs.PiecesGiveOneRun.{after_start, longer_start, headless_stays}
use Rattle.trace_lines.specs.Lines.{line, first_line, whole_line, stopped_line, conflict_line, no_header_line}
use Rattle.trace_lines.specs.declared.dump.DumpForm.TheVariants.{Frames}
use Rattle.trace_lines.specs.declared.dump.Reader.TheVariants.{Owned}
use Rattle.trace_lines.specs.Dumps.{IsDumpFrom, IsDumpAs, item_lines}
use Rattle.trace_lines.specs.parts.PieceDumps.{IsLeftBy, IsLeft, LinesCome, LinesEnd, IsWaiting}
use Rattle.trace_lines.proofs.DumpsGoOn.{dump_after, dump_ends, dump_exists}

-- ---- the header

begins_header : (bytes : List ℕ) (v : ℕ) (s : StartsWith bytes v) → Begins owned_reader empty bytes (Header v) s.rest
begins_header bytes v s = record { here = s.front; parts = s.parts; frame = s.header }

header_steps : (v : ℕ) → step empty (Header v) ≡ Some empty
unfolding step
header_steps v = refl

-- where another frame begins, no header does
no_header_there :
    (bytes rest : List ℕ) (f : Frame) → Begins owned_reader empty bytes f rest → ((v : ℕ) → f ≢ Header v) →
    IsHeadless bytes
no_header_there bytes rest f b other v s =
    other v (Begins-unique owned_reader empty bytes f (Header v) rest s.rest b (begins_header bytes v s)).0

abbrev HasStart : List ℕ → Type 0
HasStart bytes = ((v : ℕ) × StartsWith bytes v) ⊎ IsHeadless bytes

starts_by :
    (bytes : List ℕ) (frames : List Frame) (rest : List ℕ) (end : Ending) (last : Grammar) →
    IsLongest owned_reader empty bytes frames rest end last → HasStart bytes
starts_by bytes [] rest end last l =
    inr (λ v s. no_step_more owned_reader empty bytes end (Header v) s.rest empty
    (at_once owned_reader empty bytes rest end last l).2 (begins_header bytes v s) (header_steps v))
starts_by bytes (Header v ∷ fs) rest end last l =
    let b = (uncons owned_reader empty bytes (Header v) fs rest end last l).begins in
    inl (v, record { front = b.here; rest = _; parts = b.parts; header = b.frame })
starts_by bytes (Schema id shape ∷ fs) rest end last l =
    let h = uncons owned_reader empty bytes (Schema id shape) fs rest end last l in
    inr (no_header_there bytes h.after (Schema id shape) h.begins (λ v e. cc))
starts_by bytes (Event id time values ∷ fs) rest end last l =
    let h = uncons owned_reader empty bytes (Event id time values) fs rest end last l in
    inr (no_header_there bytes h.after (Event id time values) h.begins (λ v e. cc))
starts_by bytes (Strings entries ∷ fs) rest end last l =
    let h = uncons owned_reader empty bytes (Strings entries) fs rest end last l in
    inr (no_header_there bytes h.after (Strings entries) h.begins (λ v e. cc))
starts_by bytes (Stacks entries ∷ fs) rest end last l =
    let h = uncons owned_reader empty bytes (Stacks entries) fs rest end last l in
    inr (no_header_there bytes h.after (Stacks entries) h.begins (λ v e. cc))
starts_by bytes (Reset time ∷ fs) rest end last l =
    let h = uncons owned_reader empty bytes (Reset time) fs rest end last l in
    inr (no_header_there bytes h.after (Reset time) h.begins (λ v e. cc))
starts_by bytes (Annotations id entries ∷ fs) rest end last l =
    let h = uncons owned_reader empty bytes (Annotations id entries) fs rest end last l in
    inr (no_header_there bytes h.after (Annotations id entries) h.begins (λ v e. cc))

-- a header begins bytes, or none does
starts : (bytes : List ℕ) → AreBytes bytes → HasStart bytes
starts bytes fits =
    let f = longest_exists owned_reader empty bytes fits in
    starts_by bytes f.frames f.rest f.end f.last f.is

-- ---- the lines after the first

record After (bytes : List ℕ) (v : ℕ) (frames : List Frame) (rest : List ℕ) (end : Ending) (last : Grammar) : Type 0
  where
    others : List Frame
    shown : items frames ≡ items others
    longest : IsLongest owned_reader empty (drop header_length bytes) others rest end last

-- the run over all bytes, and that after the header
after_header :
    (bytes : List ℕ) (v : ℕ) (s : StartsWith bytes v) (frames : List Frame) (rest : List ℕ) (end : Ending)
    (last : Grammar) →
    IsLongest owned_reader empty bytes frames rest end last → After bytes v frames rest end last
after_header bytes v s [] rest end last l =
    absurd (no_step_more owned_reader empty bytes end (Header v) s.rest empty
    (at_once owned_reader empty bytes rest end last l).2 (begins_header bytes v s) (header_steps v))
after_header bytes v s (f ∷ fs) rest end last l =
    let h = uncons owned_reader empty bytes f fs rest end last l in
    let same = Begins-unique owned_reader empty bytes f (Header v) h.after s.rest h.begins
    (begins_header bytes v s) in
    let stepped : Some h.next ≡ Some empty = sym h.stepped ∙ ap (step empty) same.0 ∙ header_steps v in
    let next : h.next ≡ empty = cc in
    let there : h.after ≡ drop header_length bytes = same.1 ∙ sym (after_start bytes v s) in
    record {
      others = fs;
      shown = ap (λ (x : Frame). items (x ∷ fs)) same.0;
      longest = subst (λ (x : List ℕ). IsLongest owned_reader empty x fs rest end last) there
          (subst (λ (g : Grammar). IsLongest owned_reader g h.after fs rest end last) next h.longest);
    }

-- the dump of a stream, by that of all of its frames, its first header among them
stream_of :
    (bytes : List ℕ) (v : ℕ) → StartsWith bytes v → (status : ℕ) (lines : List ℕ) →
    IsDumpFrom (Frames Owned) empty no_pools (length bytes) bytes status lines →
    IsDumpAs (Frames Owned) bytes status (line (first_line v) ++ lines)
stream_of bytes v s status lines d =
    let a = after_header bytes v s d.frames d.rest d.end d.last d.longest in
    inr (record {
      version = v;
      header = s;
      lines = lines;
      following = record {
        frames = a.others;
        rest = d.rest;
        end = d.end;
        last = d.last;
        longest = a.longest;
        last_line = d.last_line;
        ends = d.ends;
        text_is = d.text_is ∙ ap (λ (x : List ℕ). x ++ line d.last_line) (ap item_lines a.shown);
      };
      text_is = refl;
    })

-- ---- what is left of a dump

-- one state, by its version
left_as :
    (s : FeedState) (v : Option ℕ) (more : List ℕ) (status : ℕ) (text : List ℕ) → s.version ≡ v →
    IsLeft s more status text → IsLeftBy v s more status text
left_as s v more status text e h = subst (λ (o : Option ℕ). IsLeftBy o s more status text) e h

left_by :
    (s : FeedState) (v : Option ℕ) (more : List ℕ) (status : ℕ) (text : List ℕ) → s.version ≡ v →
    IsLeftBy v s more status text → IsLeft s more status text
left_by s v more status text e h = subst (λ (o : Option ℕ). IsLeftBy o s more status text) (sym e) h

-- nothing came of nothing
pub nothing_comes : (s : FeedState) → LinesCome s [] s []
nothing_comes s more status rest d = d

-- lines that came of one piece, and then of another
pub come_further :
    (a b c : FeedState) (xs ys lines more_lines : List ℕ) → LinesCome a xs b lines → LinesCome b ys c more_lines →
    LinesCome a (xs ++ ys) c (lines ++ more_lines)
come_further a b c xs ys lines more_lines x y more status rest d =
    subst (λ (t : List ℕ). IsLeft a ((xs ++ ys) ++ more) status t) (sym (append_assoc lines more_lines rest))
    (subst (λ (t : List ℕ). IsLeft a t status (lines ++ (more_lines ++ rest))) (sym (append_assoc xs ys more))
    (x (ys ++ more) status (more_lines ++ rest) (y more status rest d)))

-- lines that came, and then the last ones
pub end_further :
    (a b : FeedState) (xs ys lines last : List ℕ) (status : ℕ) → LinesCome a xs b lines → LinesEnd b ys status last →
    LinesEnd a (xs ++ ys) status (lines ++ last)
end_further a b xs ys lines last status x y more =
    subst (λ (t : List ℕ). IsLeft a t status (lines ++ last)) (sym (append_assoc xs ys more))
    (x (ys ++ more) status last (y more))

-- ---- a decoder that knows the version

-- the lines of frames
pub known_come :
    (s : FeedState) (v : ℕ) (d : DecoderState) (frames : List Frame) → s.version ≡ Some v →
    Goes owned_reader (reader_of s) d frames → LinesCome s [] (standing_at s d) (item_lines (items frames))
known_come s v d frames e g more status rest x =
    let here = g.core.here in
    let left = rest_of d in
    let bytes : here ++ (left ++ more) ≡ s.kept ++ more =
    sym (append_assoc here left more) ∙ ap (λ (t : List ℕ). t ++ more) (sym g.core.parts) in
    let size : (s.position + d.position) + length (left ++ more) ≡ s.position + length (s.kept ++ more) =
    omega (
      arith,
      goes_position owned_reader (reader_of s) d frames g,
      ap length bytes,
      length-append here (left ++ more),
    ) in
    let there = left_as (standing_at s d) (Some v) more status rest e x in
    let sized : IsDumpFrom (Frames Owned) d.grammar d.pools (s.position + length (s.kept ++ more)) (left ++ more)
    status
    rest =
    subst (λ (n : ℕ). IsDumpFrom (Frames Owned) d.grammar d.pools n (left ++ more) status rest) size there in
    let pooled : IsDumpFrom (Frames Owned) d.grammar (pools_after s.pools frames)
    (s.position + length (s.kept ++ more)) (left ++ more) status rest =
    subst (λ (p : Pools). IsDumpFrom (Frames Owned) d.grammar p (s.position + length (s.kept ++ more)) (left ++ more)
    status rest) g.core.pools sized in
    left_by s (Some v) more status (item_lines (items frames) ++ rest) e
    (subst (λ (t : List ℕ). IsDumpFrom (Frames Owned) s.grammar s.pools (s.position + length (s.kept ++ more)) t
    status
    (item_lines (items frames) ++ rest)) bytes
    (dump_after (Frames Owned) s.grammar s.pools here frames g.core.run pooled))

-- no lines of headers and resets
pub known_skips :
    (s : FeedState) (v : ℕ) (d : DecoderState) (frames : List Frame) → s.version ≡ Some v →
    Goes owned_reader (reader_of s) d frames → items frames ≡ [] → LinesCome s [] (standing_at s d) []
known_skips s v d frames e g none =
    subst (λ (t : List ℕ). LinesCome s [] (standing_at s d) t) (ap item_lines none) (known_come s v d frames e g)

-- the last line at a conflict
pub known_conflict :
    (s : FeedState) (v : ℕ) (m d : DecoderState) (frames : List Frame) (id : WireTypeId) → s.version ≡ Some v →
    Goes owned_reader (reader_of s) m frames → items frames ≡ [] → Conflicts owned_reader m d id →
    LinesEnd s [] 3 (line (conflict_line (s.position + d.position) id.0))
known_conflict s v m d frames id e g none c =
    let skips : LinesCome s [] (standing_at s m) [] = known_skips s v m frames e g none in
    end_further s (standing_at s m) [] [] [] (line (conflict_line (s.position + d.position) id.0)) 3 skips ends
  where
    ends : LinesEnd (standing_at s m) [] 3 (line (conflict_line (s.position + d.position) id.0))
    ends more =
        let b = c.core.begins in
        let left = rest_of m in
        let after = rest_of d in
        let longer : Begins owned_reader m.grammar (left ++ more) (Schema id.0 c.core.shape) (after ++ more) =
        record {
          here = b.here;
          parts = ap (λ (t : List ℕ). t ++ more) b.parts ∙ append_assoc b.here after more;
          frame = b.frame;
        } in
        let size = (s.position + m.position) + length (left ++ more) in
        let moved : d.position ≡ m.position + length b.here = ap (λ (x : DecoderState). x.position) c.failed in
        let place : s.position + d.position ≡ size - length (after ++ more) =
        omega (arith, moved, ap length longer.parts, length-append b.here (after ++ more)) in
        left_by (standing_at s m) (Some v) more 3 (line (conflict_line (s.position + d.position) id.0)) e
        (dump_ends (Frames Owned) m.grammar m.pools size 3 (left ++ more)
        (conflict_line (s.position + d.position) id.0) Conflict
        (Schema id.0 c.core.shape, after ++ more, longer, c.core.no_step)
        (id.0, c.core.shape, after ++ more, longer, refl, ap (λ (n : ℕ). conflict_line n id.0) place))

-- ---- one that does not know it yet

-- the first line, once the header is read
pub first_comes :
    (s : FeedState) (v : ℕ) → s.version ≡ None → (s.position ≡ 0) × (s.grammar ≡ empty) × (s.pools ≡ no_pools) →
    StartsWith s.kept v → LinesCome s [] (record s { version = Some v }) (line (first_line v))
first_comes s v e (place, grammar, pools) header more status rest d =
    let bytes = s.kept ++ more in
    let placed : s.position + length bytes ≡ length bytes = omega (arith, place) in
    let at_front : IsDumpFrom (Frames Owned) empty no_pools (length bytes) bytes status rest =
    subst (λ (n : ℕ). IsDumpFrom (Frames Owned) empty no_pools n bytes status rest) placed
    (subst (λ (p : Pools). IsDumpFrom (Frames Owned) empty p (s.position + length bytes) bytes status rest) pools
    (subst (λ (g : Grammar). IsDumpFrom (Frames Owned) g s.pools (s.position + length bytes) bytes status rest)
    grammar
    d)) in
    left_by s None more status (line (first_line v) ++ rest) e
    (stream_of bytes v (longer_start s.kept more v header) status rest at_front)

-- the only line, where no header stands
pub no_header_ends :
    (s : FeedState) → s.version ≡ None → header_length ≤ length s.kept → IsHeadless s.kept →
    LinesEnd s [] 1 (line no_header_line)
no_header_ends s e long none more =
    left_by s None more 1 (line no_header_line) e (inl (record {
      no_header = headless_stays s.kept more long none;
      status_is = refl;
      text_is = refl;
    }))

-- ---- the end of the input

few_no_header : (bytes : List ℕ) → length bytes < header_length → IsHeadless bytes
few_no_header bytes few v s = absurd (omega (
  arith,
  few,
  ap length s.parts,
  length-append s.front s.rest,
  ap length
      s.header.parts,
))

pub ends_early :
    (s : FeedState) → s.version ≡ None → length s.kept < header_length → IsLeft s [] 1 (line no_header_line)
ends_early s e few =
    left_by s None [] 1 (line no_header_line) e (inl (record {
      no_header = few_no_header (s.kept ++ []) (subst (λ (x : List ℕ). length x < header_length) (sym (append-nil
          s.kept)) few);
      status_is = refl;
      text_is = refl;
    }))

pub ends_whole : (s : FeedState) (v : ℕ) → s.version ≡ Some v → s.kept ≡ [] → IsLeft s [] 0 (line whole_line)
ends_whole s v e none =
    left_by s (Some v) [] 0 (line whole_line) e
    (dump_ends (Frames Owned) s.grammar s.pools (s.position + length (s.kept ++ [])) 0 (s.kept ++ []) whole_line Whole
    (append-nil s.kept ∙ none) (refl, refl))

pub ends_stopped :
    (s : FeedState) (v : ℕ) → s.version ≡ Some v → s.kept ≢ [] → NoFrame owned_reader s.grammar s.kept →
    IsLeft s [] 2 (line (stopped_line s.position))
ends_stopped s v e some none =
    let bytes = s.kept ++ [] in
    let same : s.kept ≡ bytes = sym (append-nil s.kept) in
    left_by s (Some v) [] 2 (line (stopped_line s.position)) e
    (dump_ends (Frames Owned) s.grammar s.pools (s.position + length bytes) 2 bytes (stopped_line s.position) Stopped
    (subst (λ (x : List ℕ). x ≢ []) same some, subst (NoFrame owned_reader s.grammar) same none)
    (refl, ap stopped_line (omega arith)))

-- the last line where no frame comes of what is kept
pub stuck_ends : (s : FeedState) (e : DecodeError) → IsStuckAt s e → LinesEnd s [] 2 (line (stopped_line s.position))
stuck_ends s e stuck more =
    let bytes = s.kept ++ more in
    left_by s (Some stuck.version) more 2 (line (stopped_line s.position)) stuck.known
    (dump_ends (Frames Owned) s.grammar s.pools (s.position + length bytes) 2 bytes (stopped_line s.position) Stopped
    (not_empty, stuck.never more) (refl, ap stopped_line (omega arith)))
  where
    not_empty : s.kept ++ more ≢ []
    not_empty none = (let x : stuck.tag ∷ (stuck.after ++ more) ≡ [] =
        sym (ap (λ (t : List ℕ). t ++ more) stuck.begins) ∙ none in cc)

-- ---- each input has a dump

pub record HasLeft (s : FeedState) (more : List ℕ) : Type 0 where
  pub status : ℕ
  pub text : List ℕ
  pub is : IsLeft s more status text

left_of :
    (s : FeedState) (more : List ℕ) (v : Option ℕ) → s.version ≡ v → AreBytes (s.kept ++ more) → HasLeft s more
left_of s more (Some v) e fits =
    let d = dump_exists (Frames Owned) s.grammar s.pools (s.position + length (s.kept ++ more)) (s.kept ++ more) fits
    in
    record { status = d.status; text = d.text; is = left_by s (Some v) more d.status d.text e d.is }
left_of s more None e fits = by_start (starts (s.kept ++ more) fits)
  where
    by_start : HasStart (s.kept ++ more) → HasLeft s more
    by_start (inl (v, st)) =
        let d = dump_exists (Frames Owned) empty no_pools (length (s.kept ++ more)) (s.kept ++ more) fits in
        record {
          status = d.status;
          text = line (first_line v) ++ d.text;
          is = left_by s None more d.status (line (first_line v) ++ d.text) e
              (stream_of (s.kept ++ more) v st d.status d.text d.is);
        }
    by_start (inr none) = record {
      status = 1;
      text = line no_header_line;
      is = left_by s None more 1 (line no_header_line) e
          (inl (record { no_header = none; status_is = refl; text_is = refl }));
    }

-- what is left of a waiting decoder's trace has a dump
pub left_exists : (s : FeedState) (more : List ℕ) → AreBytes (s.kept ++ more) → HasLeft s more
left_exists s more fits = left_of s more s.version refl fits

-- two lists of bytes joined are bytes
pub both_fit : (a b : List ℕ) → AreBytes a → AreBytes b → AreBytes (a ++ b)
both_fit [] b x y i = y i
both_fit (n ∷ a) b x y zero = x 0
both_fit (n ∷ a) b x y (suc i) = both_fit a b (λ j. x (suc j)) y i

-- ---- a decoder that was fed nothing

-- a decoder that was fed nothing waits
pub new_waits : (s : FeedState) → s ≡ new_feed → IsWaiting s
new_waits s is = subst IsWaiting (sym is) (record {
  fed = record {
    works = refl;
    fits = λ i. omega arith;
    counted = refl;
    begins = λ _. (refl, refl, refl);
  };
  few = λ _. omega arith;
  none = λ version known. absurd cc;
})

-- ---- the last line

pub last_early :
    (s : FeedState) (line_is text : List ℕ) → IsWaiting s → s.version ≡ None → line_is ≡ text ++ line no_header_line →
    text ≡ [] → IsLeft s [] 1 line_is
last_early s line_is text w e is none =
    subst (IsLeft s [] 1) (sym (is ∙ ap (λ (x : List ℕ). x ++ line no_header_line) none)) (ends_early s e (w.few e))

nothing_left : (xs : List ℕ) → length xs ≡ 0 → xs ≡ []
nothing_left [] e = refl
nothing_left (x ∷ xs) e = absurd (omega (arith, e))

-- the last line where all bytes were read
pub last_whole :
    (s : FeedState) (v : ℕ) (line_is text : List ℕ) → IsWaiting s → s.version ≡ Some v → s.position ≡ s.fed_len →
    line_is ≡ text ++ line whole_line → text ≡ [] → IsLeft s [] 0 line_is
last_whole s v line_is text w known e is none =
    let bare : s.kept ≡ [] = nothing_left s.kept (omega (arith, w.fed.counted, e)) in
    subst (IsLeft s [] 0) (sym (is ∙ ap (λ (x : List ℕ). x ++ line whole_line) none)) (ends_whole s v known bare)

-- the last line where bytes are left
pub last_stopped :
    {s : FeedState} {v place : ℕ} {line_is text : List ℕ} → IsWaiting s → s.version ≡ Some v → place ≡ s.position →
    s.position ≢ s.fed_len → line_is ≡ text ++ line (stopped_line place) → text ≡ [] → IsLeft s [] 2 line_is
last_stopped {s} {v} {place} {line_is} w known at e is none =
    let some : s.kept ≢ [] = λ bare. e (omega (arith, w.fed.counted, ap length bare)) in
    let line_here : line_is ≡ line (stopped_line s.position) =
    is ∙ ap (λ (x : List ℕ). x ++ line (stopped_line place)) none ∙ ap (λ (n : ℕ). line (stopped_line n)) at in
    subst (IsLeft s [] 2) (sym line_here) (ends_stopped s v known some (w.none v known))
