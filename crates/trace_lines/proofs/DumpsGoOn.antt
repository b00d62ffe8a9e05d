-- How the dump of a place in a stream follows from that of a later place; that each place has a dump.
use Rattle.std.proofs.Common.{◌≡◌, ℕ, ◌-◌, List, [], ◌++◌, length, None, refl, sym, ap, subst, ◌∙◌, append_assoc}
use Rattle.std.proofs.lemmas.Grind.{flat_map-append}
use Rattle.trace_values.specs.Number.{AreBytes}
use Rattle.trace_values.specs.Values.{Kind, borrowed}
use Rattle.trace_wire.specs.Schemas.{Shape}
use Rattle.trace_wire.specs.Frames.{Grammar, Frame, Header, Schema, Event, Strings, Stacks, Reset, Annotations}
use Rattle.trace_wire.specs.Runs.{step, IsRun, all_of_kind, Begins, EndsAs, Ending, Whole, Stopped, Conflict, items}
use Rattle.trace_wire.specs.Runs.{Pools, pools_after}
use Rattle.dial9_trace_format.specs.Sinks.{events_of}
use Rattle.dial9_trace_format.proofs.SinkRuns.{events_append}
use Rattle.trace_wire.proofs.OneLongestRun.{longest_exists, continued, items_append}
use Rattle.trace_lines.specs.Lines.{line, item_line, whole_line, stopped_line, conflict_line}
use Rattle.trace_lines.specs.ResolvedLines.{resolved_line, event_lines}
use Rattle.trace_lines.specs.declared.dump.DumpForm.{DumpForm}
use Rattle.trace_lines.specs.declared.dump.DumpForm.TheVariants.{Frames, Events}
use Rattle.trace_lines.specs.Dumps.{kind_of_form, item_lines, frame_lines, IsEnd, IsDumpFrom}

pub lines_append :
    (form : DumpForm) (g mid : Grammar) (p : Pools) (here : List ℕ) (frames hs : List Frame) →
    IsRun (all_of_kind (kind_of_form form) frames) g here frames mid →
    frame_lines form g p (frames ++ hs) ≡ frame_lines form g p frames
    ++ frame_lines form mid (pools_after p frames) hs
lines_append (Frames reader) g mid p here frames hs run =
    ap item_lines (items_append frames hs) ∙ flat_map-append (λ i. line (item_line i)) (items frames) (items hs)
lines_append Events g mid p here frames hs run =
    let before = events_of g p frames in
    let after = events_of mid (pools_after p frames) hs in
    ap event_lines (events_append (all_of_kind borrowed frames) g p here frames hs mid run)
    ∙ flat_map-append (λ e. line (resolved_line e)) before after

no_frame_lines : (form : DumpForm) (g : Grammar) (p : Pools) → frame_lines form g p [] ≡ []
no_frame_lines (Frames reader) g p = refl
no_frame_lines Events g p = refl

-- what was read first, and the dump of what stands after it
pub dump_after :
    {mid : Grammar} {size status : ℕ} {bytes text : List ℕ}
    (form : DumpForm) (g : Grammar) (p : Pools) (here : List ℕ) (frames : List Frame) →
    IsRun (all_of_kind (kind_of_form form) frames) g here frames mid →
    IsDumpFrom form mid (pools_after p frames) size bytes status text →
    IsDumpFrom form g p size (here ++ bytes) status (frame_lines form g p frames ++ text)
dump_after {mid} {bytes = bytes} form g p here frames run d =
    let first = frame_lines form g p frames in
    let others = frame_lines form mid (pools_after p frames) d.frames in
    record {
      frames = frames ++ d.frames;
      rest = d.rest;
      end = d.end;
      last = d.last;
      longest = continued g here frames run d.longest;
      last_line = d.last_line;
      ends = d.ends;
      text_is = ap (λ (t : List ℕ). first ++ t) d.text_is ∙ sym (append_assoc first others (line d.last_line))
          ∙ ap (λ (t : List ℕ). t ++ line d.last_line) (sym (lines_append form g mid p here frames d.frames run));
    }

-- the longest run over bytes that begin with no frame, or with one that has no step
pub dump_ends :
    (form : DumpForm) (g : Grammar) (p : Pools) (size status : ℕ) (bytes last_line : List ℕ) (end : Ending) →
    EndsAs end (kind_of_form form) g bytes → IsEnd (kind_of_form form) size g bytes end status last_line →
    IsDumpFrom form g p size bytes status (line last_line)
dump_ends form g p size status bytes last_line end e i = record {
  frames = [];
  rest = bytes;
  end = end;
  last = g;
  longest = record { taken = []; parts = refl; run = (refl, refl); ends = e };
  last_line = last_line;
  ends = i;
  text_is = ap (λ (t : List ℕ). t ++ line last_line) (sym (no_frame_lines form g p));
}

pub record HasDump (form : DumpForm) (g : Grammar) (p : Pools) (size : ℕ) (bytes : List ℕ) : Type 0 where
  pub status : ℕ
  pub text : List ℕ
  pub is : IsDumpFrom form g p size bytes status text

-- a frame without a step is a schema
conflict_of : (g : Grammar) (f : Frame) → step g f ≡ None → (id : ℕ) × (shape : Shape) × (f ≡ Schema id shape)
unfolding step
conflict_of g (Header version) e = absurd cc
conflict_of g (Schema id shape) e = (id, shape, refl)
conflict_of g (Event id time values) e = absurd cc
conflict_of g (Strings entries) e = absurd cc
conflict_of g (Stacks entries) e = absurd cc
conflict_of g (Reset time) e = absurd cc
conflict_of g (Annotations id entries) e = absurd cc

record HasEnd (k : Kind) (size : ℕ) (last : Grammar) (rest : List ℕ) (end : Ending) : Type 0 where
  status : ℕ
  text : List ℕ
  is : IsEnd k size last rest end status text

end_exists :
    (k : Kind) (size : ℕ) (last : Grammar) (rest : List ℕ) (end : Ending) → EndsAs end k last rest →
    HasEnd k size last rest end
end_exists k size last rest Whole e = record { status = 0; text = whole_line; is = (refl, refl) }
end_exists k size last rest Stopped e =
    record { status = 2; text = stopped_line (size - length rest); is = (refl, refl) }
end_exists k size last rest Conflict e =
    let c = conflict_of last e.0 e.3 in
    let b : Begins k last rest (Schema c.0 c.1) e.1 = subst (λ (f : Frame). Begins k last rest f e.1) c.2 e.2 in
    record { status = 3; text = conflict_line (size - length e.1) c.0; is = (c.0, c.1, e.1, b, refl, refl) }

-- from each place there is a dump
pub dump_exists :
    (form : DumpForm) (g : Grammar) (p : Pools) (size : ℕ) (bytes : List ℕ) → AreBytes bytes →
    HasDump form g p size bytes
dump_exists form g p size bytes h =
    let f = longest_exists (kind_of_form form) g bytes h in
    let e = end_exists (kind_of_form form) size f.last f.rest f.end f.is.ends in
    record {
      status = e.status;
      text = frame_lines form g p f.frames ++ line e.text;
      is = record {
        frames = f.frames;
        rest = f.rest;
        end = f.end;
        last = f.last;
        longest = f.is;
        last_line = e.text;
        ends = e.is;
        text_is = refl;
      };
    }
