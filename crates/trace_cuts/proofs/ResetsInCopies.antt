-- Where resets stand in what is copied.
use Rattle.std.proofs.Common.{◌≡◌, ◌≢◌, ◌⊎◌, ℕ, Bool, true, false, List, [], ◌∷◌, ◌++◌, refl, inl, inr, sym, ap}
use Rattle.std.proofs.Common.{subst, ◌∙◌, append-nil, append_assoc, Option, Some, None, if◌then◌else◌}
use Rattle.std.specs.FinMap as map
use Rattle.std.specs.List.{filter}
use Rattle.std.proofs.lemmas.Bool.{both_ways}
use Rattle.trace_values.specs.Values.{Value}
use Rattle.trace_wire.specs.Schemas.{Shape, WireType, has_same_fields}
use Rattle.trace_wire.specs.Frames.{Grammar, grammar_of, empty, Frame, Header, Schema, Event, Strings, Stacks, Reset}
use Rattle.trace_wire.specs.Frames.{Annotations}
use Rattle.trace_wire.specs.Runs.{step, merged, put_wire_type, annotated}
use Rattle.trace_cuts.specs.declared.range.TimeRange.{TimeRange}
use Rattle.trace_cuts.specs.Ranges.{is_copied, is_no_reset}
use Rattle.trace_cuts.specs.Resets.{base_by, base_after, left_by, is_left_out, NeedsReset, NeedsResets}

-- ---- lists that are equal

nil_cons : {A : Type 0} (x : A) (xs : List A) → [] ≡ x ∷ xs → ⊥
nil_cons x xs e = (cc)

head_same : {A : Type 0} (x y : A) (xs ys : List A) → x ∷ xs ≡ y ∷ ys → x ≡ y
head_same x y xs ys e = (cc)

tail_same : {A : Type 0} (x y : A) (xs ys : List A) → x ∷ xs ≡ y ∷ ys → xs ≡ ys
tail_same x y xs ys e = (cc)

reset_same : (a b : ℕ) → Reset a ≡ Reset b → a ≡ b
reset_same a b e = (cc)

-- where one thing of two lists stands: in the first of them, or in the second
record InFirst {A : Type 0} (xs ys before : List A) (x : A) (after : List A) : Type 0 where
  pub more : List A
  pub first : xs ≡ before ++ x ∷ more
  pub rest : after ≡ more ++ ys

record InSecond {A : Type 0} (xs ys before : List A) (x : A) (after : List A) : Type 0 where
  pub more : List A
  pub first : before ≡ xs ++ more
  pub second : ys ≡ more ++ x ∷ after

parted :
    {A : Type 0} (xs ys before : List A) (x : A) (after : List A) → xs ++ ys ≡ before ++ x ∷ after →
    InFirst xs ys before x after ⊎ InSecond xs ys before x after
parted [] ys before x after e = inr (record { more = before; first = refl; second = e })
parted (z ∷ zs) ys [] x after e = inl (record {
  more = zs;
  first = ap (λ y. y ∷ zs) (head_same z x (zs ++ ys) after e);
  rest = sym (tail_same z x (zs ++ ys) after e);
})
parted (z ∷ zs) ys (w ∷ ws) x after e =
    let same : z ≡ w = head_same z w (zs ++ ys) (ws ++ x ∷ after) e in
    elim (parted zs ys ws x after (tail_same z w (zs ++ ys) (ws ++ x ∷ after) e)) [
      | inl p ↦ inl (record {
        more = p.more;
        first = ap (λ l. z ∷ l) p.first ∙ ap (λ y. y ∷ (ws ++ x ∷ p.more)) same;
        rest = p.rest;
      })
      | inr p ↦ inr (record {
        more = p.more;
        first = ap (λ y. y ∷ ws) (sym same) ∙ ap (λ l. z ∷ l) p.first;
        second = p.second;
      })
    ]

-- ---- base times

-- the base time after frames and others
pub base_append :
    (base : ℕ) (xs ys : List Frame) → base_after base (xs ++ ys) ≡ base_after (base_after base xs) ys
base_append base [] ys = refl
base_append base (x ∷ xs) ys = base_append (base_by base x) xs ys

-- whether what set the base time was left out, after frames and others
pub left_append :
    (r : TimeRange) (left : Bool) (xs ys : List Frame) →
    is_left_out r left (xs ++ ys) ≡ is_left_out r (is_left_out r left xs) ys
left_append r left [] ys = refl
left_append r left (x ∷ xs) ys = left_append r (left_by r left x) xs ys

some_same : (g next : Grammar) → Some g ≡ Some next → g ≡ next
some_same g next e = (cc)

none_same : (g : Grammar) → None ≡ Some g → ⊥
none_same g e = (cc)

tested_base :
    (b : Bool) (g next : Grammar) → (if b then Some g else None) ≡ Some next → g.base ≡ next.base
tested_base true g next e = ap (λ (x : Grammar). x.base) (some_same g next e)
tested_base false g next e = absurd (none_same next e)

merged_base :
    (g next : Grammar) (id : ℕ) (shape : Shape) (o : Option WireType) → merged g id shape o ≡ Some next →
    g.base ≡ next.base
merged_base g next id shape None e =
    ap (λ (x : Grammar). x.base)
    (some_same (put_wire_type g id (record { shape = shape; annotations = [] })) next e)
merged_base g next id shape (Some old) e =
    tested_base (has_same_fields shape old.shape)
    (put_wire_type g id (record { shape = shape; annotations = old.annotations })) next e

-- a frame with a step sets the base time so
pub base_stepped :
    (g next : Grammar) (f : Frame) → step g f ≡ Some next → base_by g.base f ≡ next.base
unfolding step empty
base_stepped g next (Header version) e = ap (λ (x : Grammar). x.base) (some_same empty next e)
base_stepped g next (Schema id shape) e = merged_base g next id shape (map.get g.wire_types id) e
base_stepped g next (Event id time values) e =
    ap (λ (x : Grammar). x.base) (some_same (grammar_of g.wire_types time) next e)
base_stepped g next (Strings entries) e = ap (λ (x : Grammar). x.base) (some_same g next e)
base_stepped g next (Stacks entries) e = ap (λ (x : Grammar). x.base) (some_same g next e)
base_stepped g next (Reset time) e =
    ap (λ (x : Grammar). x.base) (some_same (grammar_of g.wire_types time) next e)
base_stepped g next (Annotations id entries) e =
    ap (λ (x : Grammar). x.base) (some_same (annotated g id entries (map.get g.wire_types id)) next e)

-- ---- resets in what is copied of one frame

-- a reset in what is copied of a frame: it comes first, the frame is an event, and the base time is another than that
-- after what was copied
pub record HasReset (base here : ℕ) (f : Frame) (earlier : List Frame) (time : ℕ) (later : List Frame) : Type 0
  where
    pub id : ℕ
    pub event_time : ℕ
    pub values : List Value
    pub is_event : f ≡ Event id event_time values
    pub first : earlier ≡ []
    pub next : later ≡ f ∷ []
    pub base_is : here ≡ time
    pub other : base ≢ time

-- each reset in these frames is such
abbrev pub HasResets : ℕ → ℕ → Frame → List Frame → Type 0
HasResets base here f frames =
    (earlier later : List Frame) (time : ℕ) → frames ≡ earlier ++ Reset time ∷ later →
    HasReset base here f earlier time later

-- none stands in no frame
pub no_reset : {A : Type 0} (earlier later : List Frame) (time : ℕ) → [] ≡ earlier ++ Reset time ∷ later → A
no_reset [] later time e = absurd (nil_cons (Reset time) later e)
no_reset (x ∷ xs) later time e = absurd (nil_cons x (xs ++ Reset time ∷ later) e)

-- none stands in one frame that is no reset
pub no_reset_in_one :
    {A : Type 0} (f : Frame) → is_no_reset f ≡ true → (earlier later : List Frame) (time : ℕ) →
    f ∷ [] ≡ earlier ++ Reset time ∷ later → A
no_reset_in_one f none [] later time e =
    absurd (both_ways (is_no_reset f) (ap is_no_reset (head_same f (Reset time) [] later e)) none)
no_reset_in_one f none (x ∷ xs) later time e =
    no_reset xs later time (tail_same f x [] (xs ++ Reset time ∷ later) e)

-- one stands before an event whose base time is another
pub reset_before_event :
    (base here id event_time : ℕ) (values : List Value) → base ≢ here →
    HasResets base here (Event id event_time values) (Reset here ∷ Event id event_time values ∷ [])
reset_before_event base here id event_time values other [] later time e =
    let same : here ≡ time =
    reset_same here time (head_same (Reset here) (Reset time) (Event id event_time values ∷ []) later e) in
    record {
      id = id;
      event_time = event_time;
      values = values;
      is_event = refl;
      first = refl;
      next = sym (tail_same (Reset here) (Reset time) (Event id event_time values ∷ []) later e);
      base_is = same;
      other = subst (λ (n : ℕ). base ≢ n) same other;
    }
reset_before_event base here id event_time values other (x ∷ xs) later time e =
    no_reset_in_one (Event id event_time values) refl xs later time
    (tail_same (Reset here) x (Event id event_time values ∷ []) (xs ++ Reset time ∷ later) e)

-- ---- one frame more

needed_still :
    (r : TimeRange) (frames added before after : List Frame) (time : ℕ) {more : List Frame} (f : Frame) →
    after ≡ more ++ added → NeedsReset r frames before time more → NeedsReset r (frames ++ f ∷ []) before time after
needed_still r frames added before after time f rest n = record {
  id = n.id;
  event_time = n.event_time;
  values = n.values;
  following = n.following ++ added;
  next = rest ∙ ap (λ (l : List Frame). l ++ added) n.next;
  earlier = n.earlier;
  later = n.later ++ f ∷ [];
  stands = ap (λ (l : List Frame). l ++ f ∷ []) n.stands
      ∙ append_assoc n.earlier (Event n.id n.event_time n.values ∷ n.later) (f ∷ []);
  copied = n.copied;
  base = n.base;
  other = n.other;
  left_out = n.left_out;
}

left_there :
    (b : Bool) {base here time : ℕ} → (b ≡ false → base ≡ here) → here ≡ time → base ≢ time → b ≡ true
left_there true same is other = refl
left_there false same is other = absurd (other (same refl ∙ is))

needed_now :
    (r : TimeRange) (frames kept : List Frame) {base here : ℕ} (f : Frame) {before more after : List Frame}
    (time : ℕ) → filter is_no_reset kept ≡ filter (is_copied r) frames →
    (base_after 0 frames ≡ here) × (base_after 0 kept ≡ base) → (is_left_out r false frames ≡ false → base ≡ here) →
    before ≡ kept ++ more → HasReset base here f more time after → NeedsReset r (frames ++ f ∷ []) before time after
needed_now r frames kept {base} {here} f {before} {more} {after} time copied bases same is h =
    let before_is : before ≡ kept =
    is ∙ ap (λ (l : List Frame). kept ++ l) h.first ∙ append-nil kept in
    record {
      id = h.id;
      event_time = h.event_time;
      values = h.values;
      following = [];
      next = h.next ∙ ap (λ (x : Frame). x ∷ []) h.is_event;
      earlier = frames;
      later = [];
      stands = ap (λ (x : Frame). frames ++ x ∷ []) h.is_event;
      copied = ap (filter is_no_reset) before_is ∙ copied;
      base = bases.0 ∙ h.base_is;
      other = subst (λ (n : ℕ). n ≢ time) (sym (ap (base_after 0) before_is ∙ bases.1)) h.other;
      left_out = left_there (is_left_out r false frames) same h.base_is h.other;
    }

-- resets are needed after one frame more
pub resets_more :
    (r : TimeRange) (frames kept : List Frame) {base here : ℕ} (f : Frame) (added : List Frame) →
    filter is_no_reset kept ≡ filter (is_copied r) frames →
    (base_after 0 frames ≡ here) × (base_after 0 kept ≡ base) → (is_left_out r false frames ≡ false → base ≡ here) →
    NeedsResets r frames kept → HasResets base here f added → NeedsResets r (frames ++ f ∷ []) (kept ++ added)
resets_more r frames kept f added copied bases same old new before after time e =
    elim (parted kept added before (Reset time) after e) [
      | inl p ↦ needed_still r frames added before after time f p.rest (old before p.more time p.first)
      | inr p ↦ needed_now r frames kept f time copied bases same p.first (new p.more after time p.second)
    ]
