-- What was copied of all frames, as the cut of the bytes.
use Rattle.std.proofs.Common.{◌≡◌, ◌-◌, ◌≤◌, ℕ, List, [], ◌++◌, length, take, drop, sym, ap, subst, arith}
use Rattle.std.proofs.Common.{◌∙◌}
use Rattle.std.proofs.Common.{inl, inr, length-append, Option, None}
use Rattle.std.proofs.lemmas.List.{take_at, drop_at, length-drop}
use Rattle.trace_values.specs.Values.{owned_reader}
use Rattle.trace_wire.specs.declared.schema.WireTypeId.{WireTypeId}
use Rattle.trace_wire.specs.Frames.{grammar_of, empty, header_length, IsHeader}
use Rattle.trace_wire.specs.Runs.{IsRun, all_of_kind}
use Rattle.dial9_trace_format.specs.Decoding.{StartsWith, IsHeadless}
use Rattle.trace_cuts.specs.declared.range.TimeRange.{TimeRange}
use Rattle.trace_cuts.specs.declared.copying.Copying.{Copying}
use Rattle.trace_cuts.specs.declared.cut.Cut.{Cut}
use Rattle.trace_cuts.specs.Cuts.{TellsConflict, IsCut}
use Rattle.trace_cuts.specs.parts.Copies.{IsFresh, CopiesAll}
use Rattle.trace_cuts.proofs.OneFrameCopied.{copied_none}

header_is : (front : List ℕ) (version : ℕ) → IsHeader front version → length front ≡ header_length
header_is front version h = ap length h.parts

-- bytes with a header have as many as it has
pub has_header : (bytes : List ℕ) (version : ℕ) → StartsWith bytes version → header_length ≤ length bytes
has_header bytes version h =
    omega (arith, ap length h.parts, length-append h.front h.rest, header_is h.front version h.header)

-- the header of bytes, and these bytes after it
trace_of :
    (bytes spelled : List ℕ) (version : ℕ) → StartsWith bytes version →
    StartsWith (take header_length bytes ++ spelled) version
    × (drop header_length (take header_length bytes ++ spelled) ≡ spelled)
trace_of bytes spelled version h =
    let many : length h.front ≡ header_length = header_is h.front version h.header in
    let first : take header_length bytes ≡ h.front =
    ap (take header_length) h.parts ∙ take_at h.front h.rest header_length many in (
      record {
        front = h.front;
        rest = spelled;
        parts = ap (λ (l : List ℕ). l ++ spelled) first;
        header = h.header;
      },
      ap (λ (l : List ℕ). drop header_length (l ++ spelled)) first ∙ drop_at h.front spelled header_length many,
    )

-- nothing is cut where no header stands
pub no_cut :
    (r : TimeRange) (bytes : List ℕ) (cut : Cut) → IsHeadless bytes → cut.length ≡ 0 → cut.bytes.items ≡ [] →
    cut.conflict ≡ None → IsCut r bytes cut
no_cut r bytes cut none n b c = inl (record { headless = none; length_is = n; none = b; conflict = c })

-- what was copied of all frames is the cut
pub whole_cut :
    (r : TimeRange) (bytes : List ℕ) {start after : List ℕ} {version : ℕ} {first : Copying} (last : Copying)
    {conflict : Option WireTypeId} (cut : Cut) → StartsWith bytes version →
    (start ≡ take header_length bytes) × (after ≡ drop header_length bytes) → IsFresh start after first →
    CopiesAll r first last conflict →
    (cut.bytes.items ≡ last.kept.items) × (cut.length ≡ length bytes - length last.rest.now) →
    cut.conflict ≡ conflict → IsCut r bytes cut
whole_cut r bytes {start} {after} {version} {first} last cut h (at_start, at_after) fresh all (kept, many) told =
    let done = all start after (copied_none r start after first fresh) in
    let c = done.copied in
    let parts : drop header_length bytes ≡ c.taken ++ last.rest.now = sym at_after ∙ c.parts in
    let spelled : cut.bytes.items ≡ take header_length bytes ++ c.spelled =
    kept ∙ c.copied_is ∙ ap (λ (l : List ℕ). l ++ c.spelled) at_start in
    let trace = trace_of bytes c.spelled version h in
    inr (record {
      version = version;
      header = h;
      frames = c.frames;
      rest = last.rest.now;
      end = done.end;
      last = last.grammar;
      run = record { taken = c.taken; parts = parts; run = c.run; ends = done.ends };
      length_is = omega (
        arith,
        many,
        ap length parts,
        length-append c.taken last.rest.now,
        length-drop header_length bytes,
      );
      conflict = subst (λ (o : Option WireTypeId). TellsConflict last.grammar last.rest.now done.end o) (sym told)
          done.conflict_is;
      kept = c.kept;
      trace = record {
        header = subst (λ (l : List ℕ). StartsWith l version) (sym spelled) trace.0;
        last = grammar_of last.grammar.wire_types last.base;
        run = subst (λ (l : List ℕ). IsRun (all_of_kind owned_reader c.kept) empty l c.kept
            (grammar_of last.grammar.wire_types last.base))
            (sym (ap (drop header_length) spelled ∙ trace.1)) c.kept_run;
      };
      cut_of = c.cut;
    })

-- after the frames that were read no more bytes are left
pub rest_inside :
    (r : TimeRange) (bytes start after : List ℕ) (first last : Copying) (conflict : Option WireTypeId) →
    after ≡ drop header_length bytes → IsFresh start after first → CopiesAll r first last conflict →
    length last.rest.now ≤ length bytes
rest_inside r bytes start after first last conflict at_after fresh all =
    let c = (all start after (copied_none r start after first fresh)).copied in
    omega (
      arith,
      ap length at_after,
      ap length c.parts,
      length-append c.taken last.rest.now,
      length-drop header_length bytes,
    )
