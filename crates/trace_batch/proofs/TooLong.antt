-- Schemas that are too long for a record: which frames lead to them, and from where on.
use Rattle.std.proofs.Common.{◌≡◌, ℕ, Bool, true, false, ◌&&◌, cond, List, [], ◌∷◌, ◌++◌, Option, Some, None, refl}
use Rattle.std.proofs.Common.{sym, ap, ap₂, ◌∙◌, arith, append_assoc}
use Rattle.std.specs.Prelude.{if◌then◌else◌}
use Rattle.std.specs.FinMap as map
use Rattle.std.specs.Cmp.{nat_cmp_total, eq_by_cmp_equiv}
use Rattle.std.specs.Ordering.{nat_cmp}
use Rattle.std.specs.List.{AllByRecursion}
use Rattle.trace_values.specs.Values.{Kind, borrowed}
use Rattle.trace_values.proofs.OptionsAndBytes.{all_append}
use Rattle.trace_wire.specs.Schemas.{Annotation, Entry, Shape, WireType, has_same_fields, is_entry_too_long}
use Rattle.trace_wire.specs.WireTypes.{entry_of}
use Rattle.trace_wire.specs.Frames.{Grammar, Frame, Header, Schema, Event, Strings, Stacks, Reset, Annotations}
use Rattle.trace_wire.specs.Runs.{step, merged, annotated, put_wire_type, Begins}
use Rattle.trace_batch.specs.declared.taking.Taking.{Taking}
use Rattle.trace_batch.specs.declared.read_error.ReadError.{ReadError}
use Rattle.trace_batch.specs.declared.read_error.ReadError.TheVariants as errors
use Rattle.trace_batch.specs.ReadBatches.{events_in, IsNoHeader, IsOfState, ReachesTooLong}
use Rattle.trace_batch.specs.parts.Taking.{HasTooLong, is_type_too_long, tells_too_long, FailsToTake, TookFrames}
use Rattle.trace_batch.proofs.FramesTaken.{run_one, run_more}

-- ---- from where on

-- a schema that no record can tell, before any frame
pub too_long_here : (s : Taking) → HasTooLong s.grammar → ReachesTooLong s.grammar s.rest.now
too_long_here s h = record {
  frames = [];
  taken = [];
  rest = s.rest.now;
  parts = refl;
  last = s.grammar;
  run = (refl, refl);
  each = tt;
  id = h.id;
  wire_type = h.wire_type;
  held = h.held;
  long = h.long;
}

-- after frames that are no events
too_long_after : (old new : Taking) → (t : TookFrames old new) → AllByRecursion IsOfState t.frames
    → ReachesTooLong new.grammar new.rest.now → ReachesTooLong old.grammar old.rest.now
too_long_after old new t each r = record {
  frames = t.frames ++ r.frames;
  taken = t.taken ++ r.taken;
  rest = r.rest;
  parts = t.parts ∙ ap (λ (l : List ℕ). t.taken ++ l) r.parts ∙ sym (append_assoc t.taken r.taken r.rest);
  last = r.last;
  run = run_more old.grammar new.grammar r.last t.taken r.taken t.frames r.frames t.run r.run;
  each = all_append IsOfState t.frames r.frames each r.each;
  id = r.id;
  wire_type = r.wire_type;
  held = r.held;
  long = r.long;
}

-- frames without a header and without an event are those of a state
pub no_events : (fs : List Frame) → AllByRecursion IsNoHeader fs → events_in fs ≡ 0 → AllByRecursion IsOfState fs
no_events [] each none = tt
no_events (Schema id shape ∷ fs) each none = (tt, no_events fs each.1 none)
no_events (Strings entries ∷ fs) each none = (tt, no_events fs each.1 none)
no_events (Stacks entries ∷ fs) each none = (tt, no_events fs each.1 none)
no_events (Reset time ∷ fs) each none = (tt, no_events fs each.1 none)
no_events (Annotations id entries ∷ fs) each none = (tt, no_events fs each.1 none)
no_events (Header version ∷ fs) each none = absurd each.0
no_events (Event id time values ∷ fs) each none = absurd (omega (arith, none))

-- where taking fails later it fails from the first frame on
pub fails_after : (old new : Taking) (e : ReadError) → TookFrames old new → FailsToTake new e → FailsToTake old e
fails_after old new errors.TooLong t (none, r) =
    let few : events_in t.frames ≡ 0 = omega (arith, none, t.events) in
    (omega (arith, none, t.events), too_long_after old new t (no_events t.frames t.each few) r)
fails_after old new errors.OutOfMemory t h = tt
fails_after old new errors.NoHeader t h = absurd h
fails_after old new errors.NoState t h = absurd h

-- ---- which frames

-- what a wire id stands for is too long
type_long : (g : Grammar) (id : ℕ) (o : Option WireType) → map.get g.wire_types id ≡ o → is_type_too_long o ≡ true
    → HasTooLong g
type_long g id None held e = absurd (cc)
type_long g id (Some w) held e = record { id = id; wire_type = w; held = held; long = e }

-- a frame that tells it is none of a header or an event
told_long : (g : Grammar) (f : Frame) → tells_too_long (Some g) f ≡ true → HasTooLong g × IsOfState f
told_long g (Schema id shape) e = (type_long g id (map.get g.wire_types id) refl e, tt)
told_long g (Annotations id entries) e = (type_long g id (map.get g.wire_types id) refl e, tt)
told_long g (Strings entries) e = absurd (cc)
told_long g (Stacks entries) e = absurd (cc)
told_long g (Header version) e = absurd (cc)
told_long g (Event id time values) e = absurd (cc)
told_long g (Reset time) e = absurd (cc)

told_then : (s : Taking) (f : Frame) (after : List ℕ) (o : Option Grammar)
    → Begins borrowed s.grammar s.rest.now f after → step s.grammar f ≡ o → tells_too_long o f ≡ true
    → ReachesTooLong s.grammar s.rest.now
told_then s f after None b steps e = absurd (cc)
told_then s f after (Some g) b steps e =
    let t = told_long g f e in
    record {
      frames = f ∷ [];
      taken = b.here;
      rest = after;
      parts = b.parts;
      last = g;
      run = run_one s.grammar g b.here f b.frame steps;
      each = (t.1, tt);
      id = t.0.id;
      wire_type = t.0.wire_type;
      held = t.0.held;
      long = t.0.long;
    }

-- a frame that stands there leads to it
pub too_long_next : (s : Taking) (f : Frame) (after : List ℕ)
    → ((k : Kind) (x : Grammar) → Begins k x s.rest.now f after) → tells_too_long (step s.grammar f) f ≡ true
    → ReachesTooLong s.grammar s.rest.now
too_long_next s f after begins e = told_then s f after (step s.grammar f) (begins borrowed s.grammar) refl e

-- ---- what is looked at

-- an entry of this shape, with all of these annotations
pub by_parts : (b : Bool) (shape : Shape) (notes more : List Annotation) {annotations all : List Annotation}
    {entry : Entry} → b ≡ is_entry_too_long (record entry { annotations = notes ++ more })
    → entry ≡ entry_of (record { shape = shape; annotations = annotations }) → notes ++ more ≡ all
    → b ≡ is_entry_too_long (entry_of (record { shape = shape; annotations = all }))
by_parts b shape notes more e is whole =
    e ∙ ap₂ (λ (x : Entry) (l : List Annotation). is_entry_too_long (record x { annotations = l })) is whole

got : (m : map.FinMap nat_cmp WireType) (id : ℕ) (w : WireType) → map.get (map.insert m id w) id ≡ Some w
got m id w =
    map.get-insert nat_cmp_total m id w id
    ∙ ap (λ (b : Bool). cond b (Some w) (map.get m id)) ((eq_by_cmp_equiv nat_cmp_total).refl id)

put_long : (g : Grammar) (id : ℕ) (shape : Shape) (w : WireType) (b : Bool) → b ≡ is_entry_too_long (entry_of w)
    → b ≡ tells_too_long (Some (put_wire_type g id w)) (Schema id shape)
put_long g id shape w b e = e ∙ sym (ap is_type_too_long (got g.wire_types id w))

-- a schema under a new wire id
pub new_schema : (g : Grammar) (id : ℕ) (shape : Shape) (b : Bool) → None ≡ map.get g.wire_types id
    → b ≡ is_entry_too_long (entry_of (record { shape = shape; annotations = [] }))
    → b ≡ tells_too_long (step g (Schema id shape)) (Schema id shape)
unfolding step
new_schema g id shape b none e =
    put_long g id shape (record { shape = shape; annotations = [] }) b e
    ∙ ap (λ (o : Option WireType). tells_too_long (merged g id shape o) (Schema id shape)) none

by_fields : (g : Grammar) (id : ℕ) (shape : Shape) (w : WireType) (same b : Bool) → b ≡ is_entry_too_long (entry_of w)
    → (same && b) ≡ tells_too_long (if same then Some (put_wire_type g id w) else None) (Schema id shape)
by_fields g id shape w true b e = put_long g id shape w b e
by_fields g id shape w false b e = refl

-- one under a known wire id
pub known_schema : (g : Grammar) (id : ℕ) (shape : Shape) (old : WireType) (b : Bool)
    → Some old ≡ map.get g.wire_types id
    → b ≡ is_entry_too_long (entry_of (record { shape = shape; annotations = old.annotations }))
    → (has_same_fields shape old.shape && b) ≡ tells_too_long (step g (Schema id shape)) (Schema id shape)
unfolding step
known_schema g id shape old b held e =
    by_fields g id shape (record { shape = shape; annotations = old.annotations }) (has_same_fields shape old.shape) b e
    ∙ ap (λ (o : Option WireType). tells_too_long (merged g id shape o) (Schema id shape)) held

-- annotations of a known wire id
pub known_notes : (g : Grammar) (id : ℕ) (added : List Annotation) (old : WireType) (b : Bool)
    → Some old ≡ map.get g.wire_types id
    → b ≡ is_entry_too_long (entry_of (record { shape = old.shape; annotations = old.annotations ++ added }))
    → b ≡ tells_too_long (step g (Annotations id added)) (Annotations id added)
unfolding step
known_notes g id added old b held e =
    let w : WireType = record { shape = old.shape; annotations = old.annotations ++ added } in
    e ∙ sym (ap is_type_too_long (got g.wire_types id w))
    ∙ ap (λ (o : Option WireType). tells_too_long (Some (annotated g id added o)) (Annotations id added)) held

-- annotations of none
pub no_notes : (g : Grammar) (id : ℕ) (added : List Annotation) → None ≡ map.get g.wire_types id
    → false ≡ tells_too_long (step g (Annotations id added)) (Annotations id added)
unfolding step
no_notes g id added none =
    ap is_type_too_long none
    ∙ ap (λ (o : Option WireType). tells_too_long (Some (annotated g id added o)) (Annotations id added)) none

-- nothing is too long that is said after a step
pub short_after : (g next : Grammar) (f : Frame) → step g f ≡ Some next → tells_too_long (step g f) f ≡ false
    → tells_too_long (Some next) f ≡ false
short_after g next f steps e = ap (λ (o : Option Grammar). tells_too_long o f) (sym steps) ∙ e
