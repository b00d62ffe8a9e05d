-- The lines of a piece, as they are gathered.
use Rattle.std.proofs.Common.{◌≡◌, ℕ, ◌+◌, ◌<◌, List, [], ◌++◌, length, Option, Some, None, Result, Ok, Err}
use Rattle.std.proofs.Common.{IsErr, take, drop, ◌∷◌, sym, ap, subst, ◌∙◌, append-nil, append_assoc, arith}
use Rattle.std.proofs.lemmas.List.{length-append, take-append-drop}
use Rattle.std.specs.declared.io.ErrorKind.{ErrorKind}
use Rattle.trace_values.specs.Number.{AreBytes}
use Rattle.trace_values.specs.Sending.{Account, TookOnly}
use Rattle.dial9_trace_format.specs.Feeding.{FeedState}
use Rattle.dial9_trace_format.proofs.PullingIsFeeding.{pushed}
use Rattle.trace_lines.specs.Dumps.{IsDumpFrom, IsDumpAs}
use Rattle.trace_lines.specs.declared.dump.DumpForm.TheVariants.{Frames}
use Rattle.trace_lines.specs.declared.dump.Reader.TheVariants.{Owned}
use Rattle.trace_lines.specs.parts.PieceDumps.{IsLeftBy, IsLeft, LinesCome, LinesEnd, LinesBegin, IsFed}
use Rattle.trace_lines.specs.parts.PieceDumps.{AreNextLines, ArePieceLines, GathersPiece, SendsPiece}
use Rattle.trace_lines.specs.declared.pieces.Next.{Next}
use Rattle.trace_lines.specs.declared.pieces.Next.TheVariants.{Line, Wait, End}
use Rattle.trace_lines.proofs.PieceLines.{come_further, end_further, left_exists, both_fit}

-- ---- a piece that was pushed

left_pushed :
    (s : FeedState) (v : Option ℕ) (piece more : List ℕ) (status : ℕ) (text : List ℕ) →
    IsLeftBy v (pushed s piece) more status text → IsLeftBy v s (piece ++ more) status text
left_pushed s None piece more status text d =
    subst (λ (x : List ℕ). IsDumpAs (Frames Owned) x status text) (append_assoc s.kept piece more) d
left_pushed s (Some v) piece more status text d =
    subst (λ (x : List ℕ). IsDumpFrom (Frames Owned) s.grammar s.pools (s.position + length x) x status text)
    (append_assoc s.kept piece more) d

pub push_comes : (s : FeedState) (piece : List ℕ) → LinesCome s piece (pushed s piece) []
push_comes s piece more status rest d = left_pushed s s.version piece more status rest d

-- a piece more is kept
pub pushed_fed : (old new : FeedState) (piece : List ℕ) → IsFed old → AreBytes piece → new ≡ pushed old piece
    → IsFed new
pushed_fed old new piece f fits is = subst IsFed (sym is) (record {
  works = f.works;
  fits = both_fit old.kept piece f.fits fits;
  counted = omega (arith, f.counted, length-append old.kept piece);
  begins = f.begins;
})

-- the lines of a decoder that was pushed a piece
pub gathered_after :
    {E : Type 0} (old mid new : FeedState) (piece lines : List ℕ) (r : Result (Option ℕ) E) → mid ≡ pushed old piece →
    GathersPiece mid [] new lines r → GathersPiece old piece new lines r
gathered_after {E = E} old mid new piece lines r is g = by_result r
    (subst (λ (m : FeedState). GathersPiece m [] new lines r)
    is g)
  where
    joined : piece ++ [] ≡ piece
    joined = append-nil piece

    by_result : (r : Result (Option ℕ) E) → GathersPiece (pushed old piece) [] new lines r
        → GathersPiece old piece new lines r
    by_result (Ok None) (come, waiting) = (
      subst (λ (x : List ℕ). LinesCome old x new lines) joined
          (come_further old (pushed old piece) new piece [] [] lines (push_comes old piece) come),
      waiting,
    )
    by_result (Ok (Some status)) ends =
        subst (λ (x : List ℕ). LinesEnd old x status lines) joined
        (end_further old (pushed old piece) piece [] [] lines status (push_comes old piece) ends)
    by_result (Err e) begins = λ more fits.
        let (status, following, d) = begins more fits in
        (status, following, push_comes old piece more status (lines ++ following) d)

-- nothing was gathered, where the piece was refused
pub nothing_gathered : (old : FeedState) (piece held : List ℕ) → IsFed old → AreBytes piece → held ≡ []
    → LinesBegin old piece held
nothing_gathered old piece held f fits none more others =
    let left = left_exists old (piece ++ more) (both_fit old.kept (piece ++ more) f.fits (both_fit piece more fits
    others)) in (
      left.status,
      left.text,
      subst (λ (x : List ℕ). IsLeft old (piece ++ more) left.status (x ++ left.text))
          (sym none) left.is,
    )

-- ---- line by line

-- what a turn of the loop keeps
pub record Gathered (old now : FeedState) (held : List ℕ) : Type 0 where
  pub come : LinesCome old [] now held
  pub fed : IsFed now

-- before the first frame no lines came
pub none_yet : (old : FeedState) (held : List ℕ) → IsFed old → held ≡ [] → Gathered old old held
none_yet old held f none = record {
  come = subst (LinesCome old [] old) (sym none) (λ more status rest d. d);
  fed = f;
}

-- the lines so far are a front
pub front_so_far : (old now : FeedState) (held : List ℕ) → Gathered old now held → LinesBegin old [] held
front_so_far old now held g more others =
    let left = left_exists now more (both_fit now.kept more g.fed.fits others) in
    (left.status, left.text, g.come more left.status left.text left.is)

held_now : {before after line : List ℕ} (held text : List ℕ) → after ≡ before ++ line → before ≡ held → line ≡ text
    → after ≡ held ++ text
held_now {line = line} held text a b l = a ∙ ap (λ (x : List ℕ). x ++ line) b ∙ ap (λ (x : List ℕ). held ++ x) l

-- one more line
pub one_more :
    {old now : FeedState} (new : FeedState) {held : List ℕ} (line : List ℕ) {after : List ℕ} {next : Next}
    → next ≡ Line → Gathered old now held →
    AreNextLines now new line next → after ≡ held ++ line → Gathered old new after
    × (length new.kept < length now.kept)
one_more {old} {now} new {held} line is g n a =
    let (come, fed, shorter) = subst (AreNextLines now new line) is n in (
      record {
        come = subst (LinesCome old [] new) (sym a) (come_further old now new [] [] held line g.come come);
        fed = fed;
      },
      shorter,
    )

-- no more for now
pub no_more :
    {old now : FeedState} (new : FeedState) {held : List ℕ} (line : List ℕ) {after : List ℕ} {next : Next}
    → next ≡ Wait → Gathered old now held →
    AreNextLines now new line next → after ≡ held ++ line → ArePieceLines old [] new after None
no_more {old} {now} new {held} line is g n a =
    let (come, waiting) = subst (AreNextLines now new line) is n in
    (subst (LinesCome old [] new) (sym a) (come_further old now new [] [] held line g.come come), waiting)

-- the last
pub last_one :
    {old now : FeedState} (new : FeedState) {held : List ℕ} (line : List ℕ) {after : List ℕ} {next : Next} (status : ℕ)
    → next ≡ End status →
    Gathered old now held → AreNextLines now new line next → after ≡ held ++ line →
    ArePieceLines old [] new after (Some status)
last_one {old} {now} new {held} line status is g n a =
    let ends : LinesEnd now [] status line = subst (AreNextLines now new line) is n in
    subst (LinesEnd old [] status) (sym a) (end_further old now [] [] held line status g.come ends)

-- ---- and sent

-- whatever was gathered, what was left begins with it
pub gathered_begins :
    {E : Type 0} (old new : FeedState) (piece lines : List ℕ) (r : Result (Option ℕ) E)
    → GathersPiece old piece new lines r →
    LinesBegin old piece lines
gathered_begins old new piece lines (Ok None) (come, waiting) more others =
    let left = left_exists new more (both_fit new.kept more waiting.fed.fits others) in
    (left.status, left.text, come more left.status left.text left.is)
gathered_begins old new piece lines (Ok (Some status)) ends more others =
    (status, [], subst (IsLeft old (piece ++ more) status) (sym (append-nil lines)) (ends more))
gathered_begins old new piece lines (Err e) begins more others = begins more others

-- where a growth was refused
pub refused_after :
    {E : Type 0} (old new : FeedState) (piece lines : List ℕ) (r : Result (Option ℕ) E) → IsErr r →
    LinesBegin old piece lines → GathersPiece old piece new lines r
refused_after old new piece lines (Ok x) i begins = absurd cc
refused_after old new piece lines (Err e) i begins = begins

-- a front of lines that come first comes first
front_begins :
    (old : FeedState) (piece lines : List ℕ) (n : ℕ) → LinesBegin old piece lines
    → LinesBegin old piece (take n lines)
front_begins old piece lines n begins more fits =
    let (status, following, d) = begins more fits in
    let whole = ap (λ (t : List ℕ). t ++ following) (sym (take-append-drop n lines))
    ∙ append_assoc (take n lines) (drop n lines) following in
    (status, drop n lines ++ following, subst (IsLeft old (piece ++ more) status) whole d)

-- a fault within the lines
pub sent_front :
    {E : Type 0} {a b : Account} {kind : ErrorKind} (old new : FeedState) (piece lines : List ℕ) (n : ℕ)
    (r : Result (Option ℕ) E) → IsErr r → LinesBegin old piece lines → TookOnly a b (take n lines) (kind ∷ []) →
    SendsPiece a b old piece new r
sent_front old new piece lines n (Ok x) i begins took = absurd cc
sent_front {kind = kind} old new piece lines n (Err e) i begins took =
    (take n lines, front_begins old piece lines n begins, kind ∷ [], omega arith, took)

-- all lines that were made before a growth was refused
pub sent_all :
    {E : Type 0} {a b : Account} (old new : FeedState) (piece lines : List ℕ) (r : Result (Option ℕ) E) → IsErr r →
    LinesBegin old piece lines → TookOnly a b lines [] → SendsPiece a b old piece new r
sent_all old new piece lines (Ok x) i begins took = absurd cc
sent_all old new piece lines (Err e) i begins took = (lines, begins, [], omega arith, took)
