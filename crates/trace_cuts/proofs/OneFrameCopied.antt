-- One frame more of what was copied.
use Rattle.std.proofs.Common.{◌≡◌, ◌<◌, ◌≤◌, ◌-◌, ℕ, Bool, true, false, List, [], ◌∷◌, ◌++◌, length, take, refl}
use Rattle.std.proofs.Common.{inl, inr, not, ◌≢◌, sym, ap, subst, ◌∙◌}
use Rattle.std.proofs.Common.{append-nil, append_assoc, arith, length-append, Option, Some, None}
use Rattle.std.specs.Prelude.{if◌then◌else◌, ◌^◌, ◌==◌}
use Rattle.std.specs.FinMap as map
use Rattle.std.specs.List.{filter}
use Rattle.std.specs.Option.{option_map}
use Rattle.std.proofs.lemmas.Bool.{cases_Bool, eqb-true, eqb-false, true≢false}
use Rattle.std.proofs.lemmas.List.{take_at}
use Rattle.std.proofs.lemmas.List.Elements.{filter-append}
use Rattle.trace_values.specs.Values.{Kind, Value, owned_reader}
use Rattle.trace_wire.specs.declared.codec.frame.Hidden.{Hidden}
use Rattle.trace_wire.specs.declared.codec.frame.Hidden.TheVariants as hidden
use Rattle.trace_wire.specs.declared.codec.frame.Other.{Other}
use Rattle.trace_wire.specs.declared.codec.frame.Other.TheVariants as others
use Rattle.trace_wire.specs.declared.codec.frame.Frame.{Frame as CodecFrame}
use Rattle.trace_wire.specs.declared.codec.frame.Frame.TheVariants as coded
use Rattle.trace_wire.specs.Schemas.{Shape, WireType, has_same_fields}
use Rattle.trace_wire.specs.Frames.{Grammar, grammar_of, empty, Frame, Header, Schema, Event, Strings, Stacks, Reset}
use Rattle.trace_wire.specs.Frames.{Annotations, IsFrame, reset_bytes}
use Rattle.trace_wire.specs.Runs.{step, merged, put_wire_type, IsRun, all_of_kind, Begins, Item, EventItem, items}
use Rattle.trace_wire.specs.Runs.{Pools, pooled, pools_after, no_pools}
use Rattle.std.specs.Borrow.{Bor}
use Rattle.std.specs.Prelude.{IsTrue}
use Rattle.trace_wire.specs.declared.schema.WireTypeId.{WireTypeId}
use Rattle.trace_wire.specs.Runs.{NoFrame, Ending, Whole, Stopped, Conflict, EndsAs}
use Rattle.trace_wire.specs.HiddenFrames.{begins_shown}
use Rattle.trace_wire.specs.parts.HiddenFrames.{hidden_of, NoShown}
use Rattle.trace_wire.specs.parts.FrameSteps.{Applies}
use Rattle.trace_wire.specs.parts.codec.HiddenFrames.{BeginsHidden, BeginsNothing, other_tag}
use Rattle.trace_wire.proofs.HiddenOrShown.{shows_next}
use Rattle.trace_wire.specs.parts.FrameViews.{frame_by}
use Rattle.trace_wire.proofs.OneLongestRun.{run_append, kinds_append, items_append, pools_append, front_is_shorter}
use Rattle.dial9_trace_format.specs.ShownEvents.{ShownEvent}
use Rattle.dial9_trace_format.specs.Sinks.{event_by, event_of, events_of}
use Rattle.dial9_trace_format.proofs.SinkRuns.{events_append}
use Rattle.trace_cuts.specs.declared.range.TimeRange.{TimeRange}
use Rattle.trace_cuts.specs.declared.copying.Copying.{Copying}
use Rattle.trace_cuts.specs.Ranges.{is_within, stays, is_copied, is_no_reset, is_event_within}
use Rattle.trace_cuts.specs.declared.copying.Next.{Next}
use Rattle.trace_cuts.specs.declared.copying.Next.TheVariants as next
use Rattle.trace_cuts.specs.Cuts.{IsCutOfFrames, TellsConflict}
use Rattle.trace_cuts.specs.Resets.{base_by, base_after, left_by, is_left_out}
use Rattle.trace_cuts.proofs.ResetsInCopies.{HasResets, base_append, left_append, base_stepped, no_reset}
use Rattle.trace_cuts.proofs.ResetsInCopies.{no_reset_in_one, reset_before_event, resets_more}
use Rattle.trace_cuts.specs.parts.Copies.{before, needed_reset, Copies, HasCopied, IsFresh, CopiesOn, CopiesHidden}
use Rattle.trace_cuts.specs.parts.Copies.{BeginsEventAt, StaysAsIs, EndsByConflict, CopiesNext, CopiesAll}

-- ---- bytes of one frame

-- what stands before the bytes that are left of others
pub before_is : (here after bytes : List ℕ) → bytes ≡ here ++ after → before bytes after ≡ here
before_is here after bytes is =
    ap (λ (l : List ℕ). take (length l - length after) l) is
    ∙ take_at here after (length (here ++ after) - length after) (omega (arith, length-append here after))

-- after a frame fewer bytes are left
pub begins_shorter :
    (k : Kind) (g : Grammar) (bytes after : List ℕ) (f : Frame) → Begins k g bytes f after →
    length after < length bytes
begins_shorter k g bytes after f b =
    let short : length after < length (b.here ++ after) = front_is_shorter k g b.here after f b.frame in
    omega (arith, ap length b.parts)

-- a run of one frame
run_one :
    (k : Kind) (g next : Grammar) (here : List ℕ) (f : Frame) → IsFrame k g here f → step g f ≡ Some next →
    IsRun (all_of_kind k (f ∷ [])) g here (f ∷ []) next
run_one k g next here f is s = (here, [], next, sym (append-nil here), is, s, (refl, refl))

run_more :
    (k : Kind) (g mid last : Grammar) (a b : List ℕ) (fs hs : List Frame) → IsRun (all_of_kind k fs) g a fs mid →
    IsRun (all_of_kind k hs) mid b hs last → IsRun (all_of_kind k (fs ++ hs)) g (a ++ b) (fs ++ hs) last
run_more k g mid last a b fs hs x y =
    subst (λ ks. IsRun ks g (a ++ b) (fs ++ hs) last) (kinds_append k fs hs)
    (run_append (all_of_kind k fs) (all_of_kind k hs) g a b fs hs mid last (x, y))

-- ---- one frame more

-- What is copied of a frame: frames that spell these bytes, from one base time to another, and that show what stays
-- of it.
pub record Adds (r : TimeRange) (g next : Grammar) (base after : ℕ) (f : Frame) (bytes : List ℕ) : Type 0 where
  pub frames : List Frame
  pub run : IsRun (all_of_kind owned_reader frames) (grammar_of g.wire_types base) bytes frames
      (grammar_of next.wire_types after)
  pub same : filter is_no_reset frames ≡ filter (is_copied r) (f ∷ [])
  pub items : items frames ≡ filter (stays r) (items (f ∷ []))
  pub events : (p : Pools) → events_of (grammar_of g.wire_types base) p frames
      ≡ filter (is_event_within r) (events_of g p (f ∷ []))
  pub pools : (p : Pools) → pools_after p frames ≡ pooled p f
  pub kept_base : base_after base frames ≡ after
  pub same_base : (left : Bool) → (left ≡ false → base ≡ g.base) → left_by r left f ≡ false → after ≡ next.base
  pub resets : HasResets base g.base f frames

cut_more :
    (r : TimeRange) {g next : Grammar} {base after : ℕ} {f : Frame} {more : List ℕ} (taken spelled : List ℕ)
    {frames kept : List Frame} → IsRun (all_of_kind owned_reader frames) empty taken frames g →
    IsRun (all_of_kind owned_reader kept) empty spelled kept (grammar_of g.wire_types base) →
    pools_after no_pools kept ≡ pools_after no_pools frames → IsCutOfFrames r frames kept →
    (base_after 0 frames ≡ g.base) × (base_after 0 kept ≡ base) → (is_left_out r false frames ≡ false → base ≡ g.base) →
    (a : Adds r g next base after f more) → IsCutOfFrames r (frames ++ f ∷ []) (kept ++ a.frames)
cut_more r {g} {base = base} {f = f} taken spelled {frames} {kept} run kept_run pools cut bases same a = record {
  copied = filter-append is_no_reset kept a.frames
      ∙ ap (λ (l : List Frame). l ++ filter is_no_reset a.frames) cut.copied
      ∙ ap (λ (l : List Frame). filter (is_copied r) frames ++ l) a.same
      ∙ sym (filter-append (is_copied r) frames (f ∷ []));
  items = items_append kept a.frames
      ∙ ap (λ (l : List Item). l ++ items a.frames) cut.items
      ∙ ap (λ (l : List Item). filter (stays r) (items frames) ++ l) a.items
      ∙ sym (filter-append (stays r) (items frames) (items (f ∷ [])))
      ∙ ap (filter (stays r)) (sym (items_append frames (f ∷ [])));
  events =
      let p : Pools = pools_after no_pools frames in
      let here : events_of (grammar_of g.wire_types base) (pools_after no_pools kept) a.frames
      ≡ filter (is_event_within r) (events_of g p (f ∷ [])) =
      ap (λ (x : Pools). events_of (grammar_of g.wire_types base) x a.frames) pools ∙ a.events p in
      events_append (all_of_kind owned_reader kept) empty no_pools spelled kept a.frames
      (grammar_of g.wire_types base) kept_run
      ∙ ap (λ (l : List ShownEvent). l ++ events_of (grammar_of g.wire_types base) (pools_after no_pools kept) a.frames)
      cut.events
      ∙ ap (λ (l : List ShownEvent). filter (is_event_within r) (events_of empty no_pools frames) ++ l) here
      ∙ sym (filter-append (is_event_within r) (events_of empty no_pools frames) (events_of g p (f ∷ [])))
      ∙ ap (filter (is_event_within r))
      (sym (events_append (all_of_kind owned_reader frames) empty no_pools taken frames (f ∷ []) g run));
  resets = resets_more r frames kept f a.frames cut.copied bases same cut.resets a.resets;
}

-- one frame more was read, and what is copied of it was
pub copies_more :
    (r : TimeRange) {start bytes rest left : List ℕ} {g next : Grammar} {base after : ℕ} {f : Frame}
    {copied more : List ℕ} → Begins owned_reader g rest f left → step g f ≡ Some next →
    Adds r g next base after f more → Copies r start bytes rest g base copied →
    Copies r start bytes left next after (copied ++ more)
copies_more r {start} {bytes} {rest} {left} {g} {next} {base} {after} {f} {copied} {more} b s a c = record {
  frames = c.frames ++ f ∷ [];
  taken = c.taken ++ b.here;
  parts = c.parts ∙ ap (λ (l : List ℕ). c.taken ++ l) b.parts ∙ sym (append_assoc c.taken b.here left);
  run = run_more owned_reader empty g next c.taken b.here c.frames (f ∷ []) c.run
      (run_one owned_reader g next b.here f b.frame s);
  kept = c.kept ++ a.frames;
  spelled = c.spelled ++ more;
  copied_is = ap (λ (l : List ℕ). l ++ more) c.copied_is ∙ append_assoc start c.spelled more;
  kept_run = run_more owned_reader empty (grammar_of g.wire_types base) (grammar_of next.wire_types after) c.spelled
      more c.kept a.frames c.kept_run a.run;
  cut = cut_more r c.taken c.spelled c.run c.kept_run c.pools c.cut (c.base_is, c.kept_base) c.same_base a;
  pools = pools_append no_pools c.kept a.frames ∙ a.pools (pools_after no_pools c.kept)
      ∙ ap (λ (p : Pools). pooled p f) c.pools ∙ sym (pools_append no_pools c.frames (f ∷ []));
  base_is = base_append 0 c.frames (f ∷ []) ∙ ap (λ (n : ℕ). base_by n f) c.base_is ∙ base_stepped g next f s;
  kept_base = base_append 0 c.kept a.frames ∙ ap (λ (n : ℕ). base_after n a.frames) c.kept_base ∙ a.kept_base;
  same_base = λ out.
      a.same_base (is_left_out r false c.frames) c.same_base (sym (left_append r false c.frames (f ∷ [])) ∙ out);
}

-- ---- headers and resets

-- what is copied of a header
adds_header :
    (r : TimeRange) (g : Grammar) (base version : ℕ) (here : List ℕ) → IsFrame owned_reader g here (Header version) →
    Adds r g empty base 0 (Header version) here
unfolding step empty
adds_header r g base version here is = record {
  frames = Header version ∷ [];
  run = run_one owned_reader (grammar_of g.wire_types base) empty here (Header version) is refl;
  same = refl;
  items = refl;
  events = λ p. refl;
  pools = λ p. refl;
  kept_base = refl;
  same_base = λ left same out. refl;
  resets = λ earlier later time e. no_reset_in_one (Header version) refl earlier later time e;
}

-- nothing is copied of a reset
adds_reset :
    (r : TimeRange) (g : Grammar) (base time : ℕ) →
    Adds r g (grammar_of g.wire_types time) base base (Reset time) []
adds_reset r g base time = record {
  frames = [];
  run = (refl, refl);
  same = refl;
  items = refl;
  events = λ p. refl;
  pools = λ p. refl;
  kept_base = refl;
  same_base = λ left same out. absurd (true≢false out);
  resets = λ earlier later there e. no_reset earlier later there e;
}

some_one : {A : Type 0} (x y : A) → Some x ≡ Some y → x ≡ y
some_one x y e = (cc)

step_header : (g next : Grammar) (version : ℕ) → step g (Header version) ≡ Some next → next ≡ empty
unfolding step
step_header g next version s = sym (some_one empty next s)

step_reset : (g next : Grammar) (time : ℕ) → step g (Reset time) ≡ Some next → next ≡ grammar_of g.wire_types time
unfolding step
step_reset g next time s = sym (some_one (grammar_of g.wire_types time) next s)

step_event :
    (g : Grammar) (id time : ℕ) (values : List Value) →
    step g (Event id time values) ≡ Some (grammar_of g.wire_types time)
unfolding step
step_event g id time values = refl

-- ---- events

-- an event outside of the range
events_out :
    (r : TimeRange) (o : Option WireType) (p : Pools) (id time : ℕ) (values : List Value) →
    is_within r time ≡ false → [] ≡ filter (is_event_within r) (event_by o p id time values ++ [])
events_out r None p id time values out = refl
events_out r (Some w) p id time values out =
    sym (ap (λ (b : Bool). if b then event_by (Some w) p id time values else []) out)

adds_none :
    (r : TimeRange) (g : Grammar) (base id time : ℕ) (values : List Value) → is_within r time ≡ false →
    Adds r g (grammar_of g.wire_types time) base base (Event id time values) []
adds_none r g base id time values out = record {
  frames = [];
  run = (refl, refl);
  same = sym (ap (λ (b : Bool). if b then Event id time values ∷ [] else []) out);
  items = sym (ap (λ (b : Bool). if b then EventItem id time values ∷ [] else []) out);
  events = λ p. events_out r (map.get g.wire_types id) p id time values out;
  pools = λ p. refl;
  kept_base = refl;
  same_base = λ left same in_range. absurd (true≢false (sym (ap not out) ∙ in_range));
  resets = λ earlier later there e. no_reset earlier later there e;
}

-- one in the range
events_in :
    (r : TimeRange) (o : Option WireType) (p : Pools) (id time : ℕ) (values : List Value) →
    is_within r time ≡ true →
    event_by o p id time values ++ [] ≡ filter (is_event_within r) (event_by o p id time values ++ [])
events_in r None p id time values within = refl
events_in r (Some w) p id time values within =
    sym (ap (λ (b : Bool). if b then event_by (Some w) p id time values else []) within)

item_in :
    (r : TimeRange) (id time : ℕ) (values : List Value) → is_within r time ≡ true →
    EventItem id time values ∷ [] ≡ filter (stays r) (EventItem id time values ∷ [])
item_in r id time values within = sym (ap (λ (b : Bool). if b then EventItem id time values ∷ [] else []) within)

frame_in :
    (r : TimeRange) (id time : ℕ) (values : List Value) → is_within r time ≡ true →
    Event id time values ∷ [] ≡ filter (is_copied r) (Event id time values ∷ [])
frame_in r id time values within = sym (ap (λ (b : Bool). if b then Event id time values ∷ [] else []) within)

adds_same :
    (r : TimeRange) (g : Grammar) (id time : ℕ) (values : List Value) (here : List ℕ) → is_within r time ≡ true →
    IsFrame owned_reader g here (Event id time values) →
    Adds r g (grammar_of g.wire_types time) g.base time (Event id time values) here
adds_same r g id time values here within is = record {
  frames = Event id time values ∷ [];
  run = run_one owned_reader g (grammar_of g.wire_types time) here (Event id time values) is
      (step_event g id time values);
  same = frame_in r id time values within;
  items = item_in r id time values within;
  events = λ p. events_in r (map.get g.wire_types id) p id time values within;
  pools = λ p. refl;
  kept_base = refl;
  same_base = λ left same out. refl;
  resets = λ earlier later there e. no_reset_in_one (Event id time values) refl earlier later there e;
}

adds_after_reset :
    (r : TimeRange) (g : Grammar) (base id time : ℕ) {values : List Value} (here : List ℕ) →
    is_within r time ≡ true → base ≢ g.base → g.base < 2 ^ 64 → IsFrame owned_reader g here (Event id time values) →
    Adds r g (grammar_of g.wire_types time) base time (Event id time values) (reset_bytes g.base ++ here)
unfolding step
adds_after_reset r g base id time {values} here within other fits is = record {
  frames = Reset g.base ∷ Event id time values ∷ [];
  run = run_more owned_reader (grammar_of g.wire_types base) g (grammar_of g.wire_types time) (reset_bytes g.base) here
      (Reset g.base ∷ []) (Event id time values ∷ [])
      (run_one owned_reader (grammar_of g.wire_types base) g (reset_bytes g.base) (Reset g.base)
      (record { time_fits = fits; parts = refl }) refl)
      (run_one owned_reader g (grammar_of g.wire_types time) here (Event id time values) is refl);
  same = frame_in r id time values within;
  items = item_in r id time values within;
  events = λ p. events_in r (map.get g.wire_types id) p id time values within;
  pools = λ p. refl;
  kept_base = refl;
  same_base = λ left same out. refl;
  resets = reset_before_event base g.base id time values other;
}

-- with a reset where the base time is another
adds_event :
    (r : TimeRange) (g : Grammar) (base id time : ℕ) (values : List Value) (here : List ℕ) →
    is_within r time ≡ true → g.base < 2 ^ 64 → IsFrame owned_reader g here (Event id time values) →
    Adds r g (grammar_of g.wire_types time) base time (Event id time values) (needed_reset base g.base ++ here)
adds_event r g base id time values here within fits is =
    elim (cases_Bool (base == g.base)) [
      | inl same ↦ subst
          (λ (l : List ℕ). Adds r g (grammar_of g.wire_types time) base time (Event id time values) (l ++ here))
          (sym (ap (λ (b : Bool). if b then [] else reset_bytes g.base) same))
          (subst (λ (n : ℕ). Adds r g (grammar_of g.wire_types time) n time (Event id time values) here)
          (sym (eqb-true base g.base same)) (adds_same r g id time values here within is))
      | inr other ↦ subst
          (λ (l : List ℕ). Adds r g (grammar_of g.wire_types time) base time (Event id time values) (l ++ here))
          (sym (ap (λ (b : Bool). if b then [] else reset_bytes g.base) other))
          (adds_after_reset r g base id time here within (eqb-false base g.base other) fits is)
    ]

-- ---- other frames

-- a frame that is no header, no reset and no event
abbrev IsPlain : Frame → Type 0
IsPlain (Schema id shape) = Unit {0}
IsPlain (Strings entries) = Unit {0}
IsPlain (Stacks entries) = Unit {0}
IsPlain (Annotations id entries) = Unit {0}
IsPlain f = ⊥

plain :
    {T S : Type 0} (t : T → ℕ × List ℕ) (s : S → ℕ × List ℕ) (f : CodecFrame T S) → IsPlain (frame_by t s f)
plain t s (coded.Schema id wire_type) = tt
plain t s (coded.StringPool entries) = tt
plain t s (coded.StackPool entries) = tt
plain t s (coded.Annotations id entries) = tt

-- the state with another base time
abbrev rebased : ℕ → Option Grammar → Option Grammar
rebased base o = option_map (λ g. grammar_of g.wire_types base) o

by_test :
    (b : Bool) (x y : Grammar) (base : ℕ) → x ≡ grammar_of y.wire_types base →
    (if b then Some x else None) ≡ rebased base (if b then Some y else None)
by_test true x y base e = ap (λ (z : Grammar). Some z) e
by_test false x y base e = refl

merged_again :
    (g : Grammar) (base id : ℕ) (shape : Shape) (o : Option WireType) →
    merged (grammar_of g.wire_types base) id shape o ≡ rebased base (merged g id shape o)
merged_again g base id shape None = refl
merged_again g base id shape (Some old) =
    by_test (has_same_fields shape old.shape)
    (put_wire_type (grammar_of g.wire_types base) id (record { shape = shape; annotations = old.annotations }))
    (put_wire_type g id (record { shape = shape; annotations = old.annotations })) base refl

step_again :
    (g : Grammar) (base : ℕ) (f : Frame) → IsPlain f →
    step (grammar_of g.wire_types base) f ≡ rebased base (step g f)
unfolding step
step_again g base (Schema id shape) p = merged_again g base id shape (map.get g.wire_types id)
step_again g base (Strings entries) p = refl
step_again g base (Stacks entries) p = refl
step_again g base (Annotations id entries) p = refl
step_again g base (Header version) p = absurd p
step_again g base (Event id time values) p = absurd p
step_again g base (Reset time) p = absurd p

frame_again : (g h : Grammar) (here : List ℕ) (f : Frame) → IsPlain f → IsFrame owned_reader g here f →
    IsFrame owned_reader h here f
frame_again g h here (Schema id shape) p is = is
frame_again g h here (Strings entries) p is = is
frame_again g h here (Stacks entries) p is = is
frame_again g h here (Annotations id entries) p is = is
frame_again g h here (Header version) p is = absurd p
frame_again g h here (Event id time values) p is = absurd p
frame_again g h here (Reset time) p is = absurd p

plain_item : (r : TimeRange) (f : Frame) → IsPlain f → items (f ∷ []) ≡ filter (stays r) (items (f ∷ []))
plain_item r (Schema id shape) p = refl
plain_item r (Strings entries) p = refl
plain_item r (Stacks entries) p = refl
plain_item r (Annotations id entries) p = refl
plain_item r (Header version) p = absurd p
plain_item r (Event id time values) p = absurd p
plain_item r (Reset time) p = absurd p

plain_same : (r : TimeRange) (f : Frame) → IsPlain f → filter is_no_reset (f ∷ []) ≡ filter (is_copied r) (f ∷ [])
plain_same r (Schema id shape) p = refl
plain_same r (Strings entries) p = refl
plain_same r (Stacks entries) p = refl
plain_same r (Annotations id entries) p = refl
plain_same r (Header version) p = absurd p
plain_same r (Event id time values) p = absurd p
plain_same r (Reset time) p = absurd p

plain_event : (g : Grammar) (p : Pools) (f : Frame) → IsPlain f → event_of g p f ≡ []
plain_event g p (Schema id shape) is = refl
plain_event g p (Strings entries) is = refl
plain_event g p (Stacks entries) is = refl
plain_event g p (Annotations id entries) is = refl
plain_event g p (Header version) is = absurd is
plain_event g p (Event id time values) is = absurd is
plain_event g p (Reset time) is = absurd is

plain_base : (base : ℕ) (f : Frame) → IsPlain f → base_by base f ≡ base
plain_base base (Schema id shape) is = refl
plain_base base (Strings entries) is = refl
plain_base base (Stacks entries) is = refl
plain_base base (Annotations id entries) is = refl
plain_base base (Header version) is = absurd is
plain_base base (Event id time values) is = absurd is
plain_base base (Reset time) is = absurd is

plain_left : (r : TimeRange) (left : Bool) (f : Frame) → IsPlain f → left_by r left f ≡ left
plain_left r left (Schema id shape) is = refl
plain_left r left (Strings entries) is = refl
plain_left r left (Stacks entries) is = refl
plain_left r left (Annotations id entries) is = refl
plain_left r left (Header version) is = absurd is
plain_left r left (Event id time values) is = absurd is
plain_left r left (Reset time) is = absurd is

plain_no_reset : (f : Frame) → IsPlain f → is_no_reset f ≡ true
plain_no_reset (Schema id shape) is = refl
plain_no_reset (Strings entries) is = refl
plain_no_reset (Stacks entries) is = refl
plain_no_reset (Annotations id entries) is = refl
plain_no_reset (Header version) is = absurd is
plain_no_reset (Event id time values) is = absurd is
plain_no_reset (Reset time) is = absurd is

adds_plain :
    (r : TimeRange) (g next : Grammar) (base : ℕ) (f : Frame) (here : List ℕ) → IsPlain f →
    IsFrame owned_reader g here f → step g f ≡ Some next → Adds r g next base base f here
adds_plain r g next base f here p is s = record {
  frames = f ∷ [];
  run = run_one owned_reader (grammar_of g.wire_types base) (grammar_of next.wire_types base) here f
      (frame_again g (grammar_of g.wire_types base) here f p is)
      (step_again g base f p ∙ ap (rebased base) s);
  same = plain_same r f p;
  items = plain_item r f p;
  events = λ q.
      ap (λ (l : List ShownEvent). l ++ []) (plain_event (grammar_of g.wire_types base) q f p)
      ∙ ap (λ (l : List ShownEvent). filter (is_event_within r) (l ++ [])) (sym (plain_event g q f p));
  pools = λ q. refl;
  kept_base = plain_base base f p;
  same_base = λ left same out.
      same (sym (plain_left r left f p) ∙ out) ∙ (sym (plain_base g.base f p) ∙ base_stepped g next f s);
  resets = λ earlier later time e. no_reset_in_one f (plain_no_reset f p) earlier later time e;
}

-- ---- what the code keeps

to_state :
    (r : TimeRange) (start bytes : List ℕ) (s : Copying) {rest : List ℕ} {g : Grammar} {base : ℕ} {copied : List ℕ} →
    s.rest.now ≡ rest → s.grammar ≡ g → s.base ≡ base → s.kept.items ≡ copied →
    Copies r start bytes rest g base copied → HasCopied r start bytes s
to_state r start bytes s {rest} {g} {base} {copied} a b c d x =
    subst (λ (l : List ℕ). Copies r start bytes s.rest.now s.grammar s.base l) (sym d)
    (subst (λ (n : ℕ). Copies r start bytes s.rest.now s.grammar n copied) (sym c)
    (subst (λ (y : Grammar). Copies r start bytes s.rest.now y base copied) (sym b)
    (subst (λ (l : List ℕ). Copies r start bytes l g base copied) (sym a) x)))

-- a frame more, by what the code then keeps
goes_on :
    (r : TimeRange) (old new : Copying) {g : Grammar} {base : ℕ} {f : Frame} {after more : List ℕ} →
    Begins owned_reader old.grammar old.rest.now f after → step old.grammar f ≡ Some g →
    Adds r old.grammar g old.base base f more → new.rest.now ≡ after → new.grammar ≡ g → new.base ≡ base →
    new.kept.items ≡ old.kept.items ++ more → CopiesOn r old new
goes_on r old new {g} {base} {f} {after} {more} b s a rest grammar base_is kept = record {
  copies = λ start bytes c.
      to_state r start bytes new rest grammar base_is kept (copies_more r b s a c);
  shorter =
      let short : length after < length old.rest.now =
      begins_shorter owned_reader old.grammar old.rest.now after f b in
      omega (arith, ap length rest);
}

-- a header was copied
pub header_copied :
    (old new : Copying) (h : Hidden) {version : ℕ} (after : Bor (List ℕ)) → h ≡ hidden.Header version →
    BeginsHidden old.rest.now h after → step old.grammar (hidden_of h) ≡ Some new.grammar →
    new.rest.now ≡ after.now → new.base ≡ 0 →
    new.kept.items ≡ old.kept.items ++ before old.rest.now after.now → CopiesHidden old new
header_copied old new h {version} after is begins s rest base kept r =
    let b : Begins owned_reader old.grammar old.rest.now (Header version) after.now =
    subst (λ (x : Hidden). Begins owned_reader old.grammar old.rest.now (hidden_of x) after.now) is
    (begins owned_reader old.grammar) in
    let same : step old.grammar (Header version) ≡ Some new.grammar =
    ap (λ (x : Hidden). step old.grammar (hidden_of x)) (sym is) ∙ s in
    let g : new.grammar ≡ empty = step_header old.grammar new.grammar version same in
    goes_on r old new b
    (same ∙ ap (λ (x : Grammar). Some x) g) (adds_header r old.grammar old.base version b.here b.frame) rest g base
    (kept ∙ ap (λ (l : List ℕ). old.kept.items ++ l) (before_is b.here after.now old.rest.now b.parts))

-- a reset was read, and not copied
pub reset_passed :
    (old new : Copying) (h : Hidden) {time : ℕ} (after : Bor (List ℕ)) → h ≡ hidden.Reset time →
    BeginsHidden old.rest.now h after → step old.grammar (hidden_of h) ≡ Some new.grammar →
    new.rest.now ≡ after.now → new.base ≡ old.base → new.kept.items ≡ old.kept.items → CopiesHidden old new
reset_passed old new h {time} after is begins s rest base kept r =
    let b : Begins owned_reader old.grammar old.rest.now (Reset time) after.now =
    subst (λ (x : Hidden). Begins owned_reader old.grammar old.rest.now (hidden_of x) after.now) is
    (begins owned_reader old.grammar) in
    let same : step old.grammar (Reset time) ≡ Some new.grammar =
    ap (λ (x : Hidden). step old.grammar (hidden_of x)) (sym is) ∙ s in
    let g : new.grammar ≡ grammar_of old.grammar.wire_types time =
    step_reset old.grammar new.grammar time same in
    goes_on r old new b
    (same ∙ ap (λ (x : Grammar). Some x) g) (adds_reset r old.grammar old.base time) rest g base
    (kept ∙ sym (append-nil old.kept.items))

-- after a header or a reset no more bytes are left
pub hidden_shorter :
    (bytes : List ℕ) (h : Hidden) (after : Bor (List ℕ)) → BeginsHidden bytes h after →
    length after.now ≤ length bytes
hidden_shorter bytes h after begins =
    let short : length after.now < length bytes =
    begins_shorter owned_reader empty bytes after.now (hidden_of h) (begins owned_reader empty) in
    omega arith

-- after an event no more bytes are left
pub event_shorter :
    (s : Copying) (time : ℕ) (after : List ℕ) → BeginsEventAt s time after → length after ≤ length s.rest.now
event_shorter s time after b =
    let short : length after < length s.rest.now =
    begins_shorter owned_reader s.grammar s.rest.now after (Event b.0 time b.1) b.2 in
    omega arith

-- an event in the range was copied, after a reset where one is needed
pub event_copied :
    (r : TimeRange) (old new : Copying) {time event_base : ℕ} {after : List ℕ} → BeginsEventAt old time after →
    is_within r time ≡ true → event_base ≡ old.grammar.base → new.rest.now ≡ after →
    new.grammar ≡ grammar_of old.grammar.wire_types time → new.base ≡ time →
    new.kept.items ≡ old.kept.items ++ (needed_reset old.base event_base ++ before old.rest.now after) →
    CopiesOn r old new
event_copied r old new {time} {event_base} {after} b within is_base rest grammar base kept =
    let e : Frame = Event b.0 time b.1 in
    let here : List ℕ = b.2.here in
    let fits : old.grammar.base < 2 ^ 64 = omega (arith, b.2.frame.2.time_is, b.2.frame.2.time_fits) in
    goes_on r old new b.2 (step_event old.grammar b.0 time b.1)
    (adds_event r old.grammar old.base b.0 time b.1 here within fits b.2.frame) rest grammar base
    (kept ∙ ap (λ (n : ℕ). old.kept.items ++ (needed_reset old.base n ++ before old.rest.now after)) is_base
    ∙ ap (λ (l : List ℕ). old.kept.items ++ (needed_reset old.base old.grammar.base ++ l))
    (before_is here after old.rest.now b.2.parts))

-- an event outside of the range was read, and not copied
pub event_passed :
    (r : TimeRange) (old new : Copying) (time : ℕ) {after : List ℕ} → BeginsEventAt old time after →
    is_within r time ≡ false → new.rest.now ≡ after → new.grammar ≡ grammar_of old.grammar.wire_types time →
    new.base ≡ old.base → new.kept.items ≡ old.kept.items → CopiesOn r old new
event_passed r old new time {after} b out rest grammar base kept =
    goes_on r old new b.2
    (step_event old.grammar b.0 time b.1) (adds_none r old.grammar old.base b.0 time b.1 out) rest grammar base
    (kept ∙ sym (append-nil old.kept.items))

-- another frame was copied
pub other_copied :
    {T S : Type 0} (t : T → ℕ × List ℕ) (s : S → ℕ × List ℕ) (f : CodecFrame T S) (old new : Copying)
    {after : List ℕ} →
    ((k : Kind) (g : Grammar) → Begins k g old.rest.now (frame_by t s f) after) →
    step old.grammar (frame_by t s f) ≡ Some new.grammar → new.rest.now ≡ after → new.base ≡ old.base →
    new.kept.items ≡ old.kept.items ++ before old.rest.now after → (r : TimeRange) → CopiesOn r old new
other_copied t s f old new {after} begins next rest base kept r =
    let b : Begins owned_reader old.grammar old.rest.now (frame_by t s f) after = begins owned_reader old.grammar in
    goes_on r old new b next
    (adds_plain r old.grammar new.grammar old.base (frame_by t s f) b.here (plain t s f) b.frame next) rest refl base
    (kept ∙ ap (λ (l : List ℕ). old.kept.items ++ l) (before_is b.here after old.rest.now b.parts))

-- after another frame no more bytes are left
pub other_shorter :
    (bytes after : List ℕ) (f : Frame) → ((k : Kind) (g : Grammar) → Begins k g bytes f after) →
    length after ≤ length bytes
other_shorter bytes after f begins =
    let short : length after < length bytes =
    begins_shorter owned_reader empty bytes after f (begins owned_reader empty) in
    omega arith

-- the tag of another frame is that of a shown one
pub tag_is_shown : (other : Other) (bytes : List ℕ) → IsTrue (begins_shown (other_tag other ∷ bytes))
tag_is_shown others.Schema bytes = refl
tag_is_shown others.StringPool bytes = refl
tag_is_shown others.StackPool bytes = refl
tag_is_shown others.Annotations bytes = refl

-- no frame stands where none stands that is shown, after the tag of one that is shown
pub none_there :
    (g : Grammar) (bytes : List ℕ) → IsTrue (begins_shown bytes) → NoShown owned_reader g bytes →
    NoFrame owned_reader g bytes
none_there g bytes tag none f after b = shows_next bytes tag owned_reader g f after b (none f after b)

-- nothing was read, and nothing changed
stays_same : (s : Copying) → StaysAsIs s s
stays_same s = record { rest = refl; grammar = refl; base = refl; kept = refl }

-- after the tag of a shown frame none stands
pub none_shown :
    (s : Copying) (bytes : List ℕ) → s.rest.now ≡ bytes → IsTrue (begins_shown bytes) →
    NoShown owned_reader s.grammar bytes → (r : TimeRange) → CopiesNext r s s next.End
none_shown s bytes is tag none r = (
  stays_same s,
  subst (λ (l : List ℕ). NoFrame owned_reader s.grammar l) (sym is) (none_there s.grammar bytes tag none),
)

-- no frame begins there
pub none_begins : (s : Copying) → BeginsNothing s.rest.now → (r : TimeRange) → CopiesNext r s s next.End
none_begins s none r = (stays_same s, none owned_reader s.grammar)

-- an event stands there
pub event_there :
    (s : Copying) (bytes : List ℕ) (id time : ℕ) (values : List Value) (after : List ℕ) → s.rest.now ≡ bytes →
    Begins owned_reader s.grammar bytes (Event id time values) after → BeginsEventAt s time after
event_there s bytes id time values after is b =
    (id, values, subst (λ (l : List ℕ). Begins owned_reader s.grammar l (Event id time values) after) (sym is) b)

-- a schema stands there that has no step
pub other_conflicts :
    (f : Frame) (old new : Copying) {after : List ℕ} (id : WireTypeId) →
    ((k : Kind) (g : Grammar) → Begins k g old.rest.now f after) →
    Applies old.grammar new.grammar f (Some id) → new.rest.now ≡ old.rest.now →
    new.base ≡ old.base → new.kept.items ≡ old.kept.items → (r : TimeRange) → CopiesNext r old new (next.Conflict id)
other_conflicts f old new {after} id begins a rest base kept r = (
  record { rest = rest; grammar = a.3; base = base; kept = kept },
  record {
    shape = a.0;
    after = after;
    begins = subst (λ (x : Frame). Begins owned_reader old.grammar old.rest.now x after) a.1
        (begins owned_reader old.grammar);
    no_step = ap (step old.grammar) (sym a.1) ∙ a.2;
  },
)

-- ---- all frames

-- one frame more was read
pub went_on :
    (r : TimeRange) (old new : Copying) (n : Next) → n ≡ next.Frame → CopiesNext r old new n → CopiesOn r old new
went_on r old new n is x = subst (CopiesNext r old new) is x

stays_copied :
    (r : TimeRange) (start bytes : List ℕ) (old new : Copying) → StaysAsIs old new → HasCopied r start bytes old →
    HasCopied r start bytes new
stays_copied r start bytes old new same c =
    to_state r start bytes new same.rest same.grammar same.base same.kept c

-- how a run ends where no frame stands
ends_there :
    (g : Grammar) (rest : List ℕ) → NoFrame owned_reader g rest →
    (end : Ending) × EndsAs end owned_reader g rest × TellsConflict g rest end None
ends_there g [] none = (Whole, refl, tt)
ends_there g (x ∷ xs) none = (Stopped, ((λ e. (cc)), none), tt)

-- what was copied from the first frame on
abbrev pub CopiedFrom : TimeRange → Copying → Copying → Type 0
CopiedFrom r first s = (start bytes : List ℕ) → HasCopied r start bytes first → HasCopied r start bytes s

-- all frames were read, up to where none stands
pub all_copied :
    (r : TimeRange) (first old new : Copying) (n : Next) → CopiedFrom r first old → n ≡ next.End →
    CopiesNext r old new n → CopiesAll r first new None
all_copied r first old new n so_far is x start bytes c =
    let e = subst (CopiesNext r old new) is x in
    let same : StaysAsIs old new = e.0 in
    let none : NoFrame owned_reader new.grammar new.rest.now =
    subst (λ (l : List ℕ). NoFrame owned_reader new.grammar l) (sym same.rest)
    (subst (λ (g : Grammar). NoFrame owned_reader g old.rest.now) (sym same.grammar) e.1) in
    let end = ends_there new.grammar new.rest.now none in
    record {
      copied = stays_copied r start bytes old new same (so_far start bytes c);
      end = end.0;
      ends = end.1;
      conflict_is = end.2;
    }

-- all frames were read, up to a schema without a step
pub conflict_copied :
    (r : TimeRange) (first old new : Copying) (n : Next) (id : WireTypeId) → CopiedFrom r first old →
    n ≡ next.Conflict id → CopiesNext r old new n → CopiesAll r first new (Some id)
conflict_copied r first old new n id so_far is x start bytes c =
    let e = subst (CopiesNext r old new) is x in
    let same : StaysAsIs old new = e.0 in
    let there : EndsByConflict new id =
    record {
      shape = e.1.shape;
      after = e.1.after;
      begins = subst (λ (l : List ℕ). Begins owned_reader new.grammar l (Schema id.0 e.1.shape) e.1.after)
          (sym same.rest)
          (subst (λ (g : Grammar). Begins owned_reader g old.rest.now (Schema id.0 e.1.shape) e.1.after)
          (sym same.grammar) e.1.begins);
      no_step = ap (λ (g : Grammar). step g (Schema id.0 e.1.shape)) same.grammar ∙ e.1.no_step;
    } in
    record {
      copied = stays_copied r start bytes old new same (so_far start bytes c);
      end = Conflict;
      ends = (Schema id.0 there.shape, there.after, there.begins, there.no_step);
      conflict_is = (there.shape, there.after, there.begins);
    }

-- nothing was read yet
pub copied_none :
    (r : TimeRange) (start bytes : List ℕ) (s : Copying) → IsFresh start bytes s → HasCopied r start bytes s
unfolding empty
copied_none r start bytes s f =
    to_state r start bytes s f.rest f.grammar f.base f.kept
    (record {
      frames = [];
      taken = [];
      parts = refl;
      run = (refl, refl);
      kept = [];
      spelled = [];
      copied_is = sym (append-nil start);
      kept_run = (refl, refl);
      cut = record {
        copied = refl;
        items = refl;
        events = refl;
        resets = λ before after time e. no_reset before after time e;
      };
      pools = refl;
      base_is = refl;
      kept_base = refl;
      same_base = λ out. refl;
    })
