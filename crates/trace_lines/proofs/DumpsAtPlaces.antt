-- Places of a decoder, and what a dump has left there.
use Rattle.std.proofs.Common.{◌≡◌, ◌≢◌, ℕ, ◌+◌, ◌-◌, ◌<◌, ◌≤◌, List, [], ◌++◌, length, Option, Some, None, Ok, Err}
use Rattle.std.proofs.Common.{refl, sym, ap, subst, ◌∙◌, arith, inl, inr}
use Rattle.std.proofs.lemmas.List.{append-nil, length-append, drop_all}
use Rattle.trace_values.specs.Number.{AreBytes}
use Rattle.trace_values.specs.Values.{Kind}
use Rattle.trace_values.proofs.FixedWidths.{AreBytes-right}
use Rattle.trace_values.proofs.OptionsAndBytes.{AreBytes-drop}
use Rattle.trace_wire.specs.Frames.{Frame, Schema}
use Rattle.trace_wire.specs.Runs.{NoFrame, Whole, Stopped, Conflict, Item, items, Pools, pools_after}
use Rattle.trace_wire.specs.declared.schema.WireTypeId.{WireTypeId}
use Rattle.dial9_trace_format.specs.Decoding.{DecoderState, StartsWith, IsHeadless, new_decoder, rest_of}
use Rattle.dial9_trace_format.specs.Decoding.{Goes, StepsOverAll, Conflicts, FailsBy, error_of, NextFrame}
use Rattle.dial9_trace_format.specs.DecodedFrames.{next_as}
use Rattle.dial9_trace_format.proofs.DecoderRuns.{placed_new, item_shorter, left_at, goes_inside, next_goes}
use Rattle.dial9_trace_format.specs.declared.failure.Failure.{Failure}
use Rattle.dial9_trace_format.specs.declared.failure.Failure.TheVariants as failures
use Rattle.dial9_trace_format.specs.declared.decoder.error.DecodeError.{DecodeError}
use Rattle.dial9_trace_format.specs.declared.decoder.error.DecodeErrorKind.TheVariants as error_kinds
use Rattle.trace_lines.specs.Lines.{line, item_line, first_line, whole_line, stopped_line, conflict_line}
use Rattle.trace_lines.specs.Dumps.{kind_of, kind_of_form, IsDumpAs, item_lines, frame_lines, IsDumpFrom}
use Rattle.trace_lines.specs.declared.dump.DumpForm.{DumpForm}
use Rattle.trace_lines.specs.declared.dump.DumpForm.TheVariants.{Frames}
use Rattle.trace_lines.specs.declared.dump.Reader.{Reader}
use Rattle.trace_lines.specs.parts.Sent.{IsGoing, IsOnlyLine, AreStreamLines, IsRestOfDump, LastLineHere, TellsError}
use Rattle.trace_lines.specs.parts.Sent.{IsNextLine}
use Rattle.trace_lines.proofs.DumpsGoOn.{dump_after, dump_ends, dump_exists}

-- the lines of frames, and then the rest of the dump, are the rest of the dump before them
pub rest_after :
    (form : DumpForm) (old new : DecoderState) (frames : List Frame) (status : ℕ) (text : List ℕ) →
    Goes (kind_of_form form) old new frames → IsRestOfDump form new status text →
    IsRestOfDump form old status (frame_lines form old.grammar old.pools frames ++ text)
rest_after form old new frames status text g d =
    let size = length old.input in
    let sized : IsDumpFrom form new.grammar new.pools size (rest_of new) status text =
    subst (λ (x : List ℕ). IsDumpFrom form new.grammar new.pools (length x) (rest_of new) status text)
    (ap (λ (r : DecoderState). r.input) g.moved) d in
    let here : IsDumpFrom form new.grammar (pools_after old.pools frames) size (rest_of new) status text =
    subst (λ (p : Pools). IsDumpFrom form new.grammar p size (rest_of new) status text) g.core.pools sized in
    let lines = frame_lines form old.grammar old.pools frames ++ text in
    subst (λ (x : List ℕ). IsDumpFrom form old.grammar old.pools size x status lines) (sym g.core.parts)
    (dump_after form old.grammar old.pools g.core.here frames g.core.run here)

-- where no frame stands, the last line ends the dump
pub end_here :
    (form : DumpForm) (r : DecoderState) (status : ℕ) (text : List ℕ) → r.position ≤ length r.input →
    NoFrame (kind_of_form form) r.grammar (rest_of r) → LastLineHere r status text → IsRestOfDump form r status text
end_here form r status text inside n (inl (at, is, t)) =
    let size = length r.input in
    let done : rest_of r ≡ [] = drop_all r.position r.input (omega arith) in
    let d : IsRestOfDump form r 0 (line whole_line) =
    dump_ends form r.grammar r.pools size 0 (rest_of r) whole_line Whole done (refl, refl) in
    subst (λ (x : ℕ). IsRestOfDump form r x text) (sym is) (subst (IsRestOfDump form r 0) (sym t) d)
end_here form r status text inside n (inr (before, is, t)) =
    let size = length r.input in
    let last = stopped_line r.position in
    let some : rest_of r ≢ [] = λ e. before (omega (arith, ap length e, left_at r.position r.input inside)) in
    let place : last ≡ stopped_line (size - length (rest_of r)) =
    ap stopped_line (omega (arith, left_at r.position r.input inside)) in
    let d : IsRestOfDump form r 2 (line last) =
    dump_ends form r.grammar r.pools size 2 (rest_of r) last Stopped (some, n) (refl, place) in
    subst (λ (x : ℕ). IsRestOfDump form r x text) (sym is) (subst (IsRestOfDump form r 2) (sym t) d)

-- headers and resets that were stepped over have no lines
pub rest_after_skipped :
    (reader : Reader) (old new : DecoderState) (status : ℕ) (text : List ℕ) → StepsOverAll (kind_of reader) old new →
    IsRestOfDump (Frames reader) new status text → IsRestOfDump (Frames reader) old status text
rest_after_skipped reader old new status text (frames, goes, none, shows) d =
    subst (λ (x : List ℕ). IsRestOfDump (Frames reader) old status (x ++ text)) (ap item_lines none)
    (rest_after (Frames reader) old new frames status text goes d)

skips_inside :
    (k : Kind) (old new : DecoderState) → StepsOverAll k old new → old.position ≤ length old.input →
    new.position ≤ length new.input
skips_inside k old new (frames, goes, none, shows) h = goes_inside k old new frames goes h

ends_none :
    (reader : Reader) (old new : DecoderState) (status : ℕ) (text : List ℕ) → old.position ≤ length old.input →
    NextFrame (kind_of reader) old new (Ok None) → LastLineHere new status text →
    IsRestOfDump (Frames reader) old status text
ends_none reader old new status text inside (skipped, n) e =
    rest_after_skipped reader old new status text skipped
    (end_here (Frames reader) new status text (skips_inside (kind_of reader) old new skipped inside) n e)

-- no frame stands there, and the dump ends
pub ends_here :
    {D : Type 0} {x : Option D} (view : D → Item) (reader : Reader) (old new : DecoderState) (status : ℕ)
    (text : List ℕ) → old.position ≤ length old.input → x ≡ None →
    NextFrame (kind_of reader) old new (next_as view (Ok x)) → LastLineHere new status text →
    IsRestOfDump (Frames reader) old status text
ends_here {D = D} view reader old new status text inside is n e =
    ends_none reader old new status text inside
    (subst (λ (z : Option D). NextFrame (kind_of reader) old new (next_as view (Ok z))) is n) e

conflict_at :
    (form : DumpForm) (mid new : DecoderState) (id : WireTypeId) → mid.position ≤ length mid.input →
    Conflicts (kind_of_form form) mid new id → IsRestOfDump form mid 3 (line (conflict_line new.position id.0))
conflict_at form mid new id inside x =
    let c = x.core in
    let size = length mid.input in
    let there : new.position ≡ mid.position + length c.begins.here = ap (λ (d : DecoderState). d.position) x.failed in
    let left : length (rest_of mid) ≡ length c.begins.here + length (rest_of new) =
    ap length c.begins.parts ∙ length-append c.begins.here (rest_of new) in
    let place : new.position ≡ size - length (rest_of new) =
    omega (arith, left_at mid.position mid.input inside) in
    dump_ends form mid.grammar mid.pools size 3 (rest_of mid) (conflict_line new.position id.0) Conflict
    (Schema id.0 c.shape, rest_of new, c.begins, c.no_step)
    (id.0, c.shape, rest_of new, c.begins, refl, ap (λ (n : ℕ). conflict_line n id.0) place)

-- the decoder fails, and the dump ends, at a schema that differs after it
pub fails_here :
    {e : DecodeError} (form : DumpForm) (mid new : DecoderState) (f : Failure) (status : ℕ) (text : List ℕ) →
    mid.position ≤ length mid.input → FailsBy (kind_of_form form) mid new f → e ≡ error_of new.position f →
    TellsError new e.pos e.kind status text → IsRestOfDump form mid status text
fails_here form mid new (failures.Conflict id) status text inside c is t =
    let told : TellsError new new.position (error_kinds.Conflict id) status text =
    subst (λ (x : DecodeError). TellsError new x.pos x.kind status text) is t in
    subst (λ (n : ℕ). IsRestOfDump form mid n text) (sym told.0)
    (subst (IsRestOfDump form mid 3) (sym told.1) (conflict_at form mid new id inside c))
fails_here form mid new failures.OutOfMemory status text inside c is t =
    absurd (subst (λ (x : DecodeError). TellsError new x.pos x.kind status text) is t)

-- where the next frame fails the rest is the line of the error
pub ends_by_error :
    (reader : Reader) (old new : DecoderState) (e : DecodeError) (status : ℕ) (text : List ℕ) →
    old.position ≤ length old.input → NextFrame (kind_of reader) old new (Err e) →
    TellsError new e.pos e.kind status text → IsRestOfDump (Frames reader) old status text
ends_by_error reader old new e status text inside (mid, f, skipped, failed, is) t =
    rest_after_skipped reader old mid status text skipped
    (fails_here (Frames reader) mid new f status text (skips_inside (kind_of reader) old mid skipped inside) failed is
    t)

-- ---- the lines up to a frame that is shown

item_next :
    (reader : Reader) (old new : DecoderState) (shown : Item) (text : List ℕ) →
    NextFrame (kind_of reader) old new (Ok (Some shown)) → text ≡ line (item_line shown) →
    IsNextLine reader old new text None
item_next reader old new shown text n is =
    let (frames, goes, one) = next_goes (kind_of reader) old new shown n in
    (frames, shown, goes, one, is)

-- a frame that is shown is the next line
pub next_item :
    {D : Type 0} {x : Option D} {d : D} {before text : List ℕ} (view : D → Item) (reader : Reader)
    (old new : DecoderState) → x ≡ Some d → NextFrame (kind_of reader) old new (next_as view (Ok x)) → before ≡ [] →
    text ≡ before ++ line (item_line (view d)) → IsNextLine reader old new text None
next_item {D = D} {d = d} {text = text} view reader old new is n none t =
    item_next reader old new (view d) text
    (subst (λ (z : Option D). NextFrame (kind_of reader) old new (next_as view (Ok z))) is n)
    (t ∙ ap (λ (b : List ℕ). b ++ line (item_line (view d))) none)

-- after a line fewer bytes are left
pub next_shorter :
    (reader : Reader) (old new : DecoderState) (text : List ℕ) → IsNextLine reader old new text None →
    length (rest_of new) < length (rest_of old)
next_shorter reader old new text (frames, shown, goes, one, is) =
    item_shorter (kind_of reader) old new frames shown goes one

-- a decoder that gave a line goes on
pub next_going :
    (reader : Reader) (old new : DecoderState) (text : List ℕ) → IsNextLine reader old new text None → IsGoing old →
    IsGoing new
next_going reader old new text (frames, shown, goes, one, is) going = record {
  reading = record {
    works = ap (λ (d : DecoderState). d.failure) goes.moved ∙ going.reading.works;
    inside = goes_inside (kind_of reader) old new frames goes going.reading.inside;
  };
  fits = AreBytes-right goes.core.here (rest_of new) (subst AreBytes goes.core.parts going.fits);
}

-- a line, and then the rest of the dump, are the rest of the dump before it
pub next_goes_on :
    (reader : Reader) (old new : DecoderState) (text : List ℕ) → IsNextLine reader old new text None →
    (status : ℕ) (rest : List ℕ) → IsRestOfDump (Frames reader) new status rest →
    IsRestOfDump (Frames reader) old status (text ++ rest)
next_goes_on reader old new text (frames, shown, goes, one, is) status rest d =
    let lines : text ≡ item_lines (items frames) =
    is ∙ sym (append-nil (line (item_line shown))) ∙ ap item_lines (sym one) in
    subst (λ (t : List ℕ). IsRestOfDump (Frames reader) old status (t ++ rest)) (sym lines)
    (rest_after (Frames reader) old new frames status rest goes d)

-- ---- the first line

-- the line of the version is the first line
pub first_line_is :
    (text before : List ℕ) (version same : ℕ) → text ≡ before ++ line (first_line version) → before ≡ [] →
    version ≡ same → text ≡ line (first_line same)
first_line_is text before version same t b v =
    t ∙ ap (λ (x : List ℕ). x ++ line (first_line version)) b ∙ ap (λ (n : ℕ). line (first_line n)) v

-- a stream has lines
pub stream_exists :
    (form : DumpForm) (r : DecoderState) → AreBytes (rest_of r) →
    (status : ℕ) × (text : List ℕ) × AreStreamLines form r status (line (first_line r.version) ++ text)
stream_exists form r fits =
    let d = dump_exists form r.grammar r.pools (length r.input) (rest_of r) fits in
    (d.status, d.text, (d.text, d.is, refl))

-- a decoder right after the header
pub new_goes :
    (input : List ℕ) (r : DecoderState) → StartsWith input r.version → r ≡ new_decoder input r.version →
    AreBytes input → IsGoing r
new_goes input r header is fits =
    let going : IsGoing (new_decoder input r.version) = record {
      reading = record { works = refl; inside = (placed_new input r.version header).inside };
      fits = AreBytes-drop 5 input fits;
    } in
    subst IsGoing (sym is) going

-- a dump of bytes without a header is the one line that says so
pub no_dump :
    (form : DumpForm) (input : List ℕ) → IsHeadless input → (status : ℕ) (text : List ℕ) → IsOnlyLine status text →
    IsDumpAs form input status text
no_dump form input none status text (s, t) = inl (record { no_header = none; status_is = s; text_is = t })

-- the lines of a stream are the dump of its bytes
pub stream_dump :
    (form : DumpForm) (input : List ℕ) (r : DecoderState) → StartsWith input r.version →
    r ≡ new_decoder input r.version → (status : ℕ) (text : List ℕ) → AreStreamLines form r status text →
    IsDumpAs form input status text
stream_dump form input r header is status text (lines, d, t) = inr (record {
  version = r.version;
  header = header;
  lines = lines;
  following = subst (λ (x : DecoderState). IsRestOfDump form x status lines) is d;
  text_is = t;
})
