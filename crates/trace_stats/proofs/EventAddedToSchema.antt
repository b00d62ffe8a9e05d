-- One event more of a schema.
use Rattle.std.proofs.Common.{◌≡◌, ◌<◌, ◌≤◌, ◌⊎◌, inl, inr, ◌+◌, ℕ, List, [], ◌∷◌, ◌++◌, length, get_or, take, drop}
use Rattle.std.proofs.Common.{set, map as list_map, refl, sym, ap, subst, ◌∙◌, suc, append-nil, arith, length-append}
use Rattle.std.proofs.Common.{Result, Ok, Err, OnOk}
use Rattle.std.proofs.Math.Seq.{drop-cons}
use Rattle.std.proofs.lemmas.Bool.{cases_eq}
use Rattle.std.proofs.lemmas.List.{drop_all, flat_map_more, map_push, length-map, get_or_default, get_or-set_same}
use Rattle.std.proofs.lemmas.List.{get_or-set_other}
use Rattle.std.proofs.Math.ListN.{get_or-map}
use Rattle.std.proofs.lemmas.List.Elements.{All-push}
use Rattle.std.specs.List.{All}
use Rattle.trace_values.specs.Refs.{ref_view, ref_views}
use Rattle.trace_values.specs.ValueViews.{view, views}
use Rattle.trace_values.specs.Values.{Value}
use Rattle.trace_values.specs.declared.types.field_value.FieldValue.{FieldValue}
use Rattle.trace_values.specs.declared.types.borrowed.FieldValueRef.{FieldValueRef}
use Rattle.trace_wire.specs.Schemas.{Entry}
use Rattle.dial9_trace_format.specs.Resolving.{in_full}
use Rattle.dial9_trace_format.specs.ShownEvents.{ShownEvent}
use Rattle.trace_values.proofs.CompareLoops.{ElementAt}
use Rattle.trace_stats.specs.Summaries.{IsSummaryOf, most_counted}
use Rattle.trace_stats.specs.Events.{Counted, full_value, column, AreFieldsOf, IsSchemaOf}
use Rattle.trace_stats.specs.parts.Events.{AddsAt, AddsValues, IsFullAt}
use Rattle.trace_stats.specs.Fields.{IsFieldOf, measure_of}
use Rattle.trace_stats.specs.declared.measure.Measure.{Measure}
use Rattle.trace_stats.specs.declared.field.FieldStats.{FieldStats}
use Rattle.trace_stats.specs.declared.schema.SchemaStats.{SchemaStats}

-- ---- fields, index by index

-- the values below an index were added, and the fields from there on are as they were
pub record AddedBelow (i : ℕ) (e : ShownEvent) (old new : List FieldStats) : Type 0 where
  pub count : length new ≡ length old
  pub below : (k : ℕ) (d : FieldStats) (vs : List Value) → k < i → IsFieldOf vs (get_or old k d) →
      IsFieldOf (vs ++ full_value k e) (get_or new k d)
  pub rest : (k : ℕ) (d : FieldStats) → i ≤ k → get_or new k d ≡ get_or old k d

-- before the first index
pub none_below : (e : ShownEvent) (fs : List FieldStats) → AddedBelow 0 e fs fs
none_below e fs = record {
  count = refl;
  below = λ k d vs lt h. absurd (omega arith);
  rest = λ k d le. refl;
}

below_next :
    {i : ℕ} {e : ShownEvent} {old mid new : List FieldStats} → AddedBelow i e old mid → AddsAt i e mid new →
    (k : ℕ) (d : FieldStats) {vs : List Value} → k < i + 1 → IsFieldOf vs (get_or old k d) →
    (k ≡ i) ⊎ (k ≡ i → ⊥) → IsFieldOf (vs ++ full_value k e) (get_or new k d)
below_next {i} {e} {old} {mid} {new} s one k d {vs} lt h (inl is) =
    let at_i : IsFieldOf vs (get_or old i d) = subst (λ (j : ℕ). IsFieldOf vs (get_or old j d)) is h in
    let before : IsFieldOf vs (get_or mid i d) =
    subst (λ (f : FieldStats). IsFieldOf vs f) (sym (s.rest i d (omega arith))) at_i in
    subst (λ (j : ℕ). IsFieldOf (vs ++ full_value j e) (get_or new j d)) (sym is) (one.here d vs before)
below_next {i} {e} s one k d {vs} lt h (inr other) =
    let less : k < i = omega arith in
    subst (λ (f : FieldStats). IsFieldOf (vs ++ full_value k e) f) (sym (one.others k d other)) (s.below k d vs less h)

-- the value of the next index was added too
pub one_below :
    (i : ℕ) (e : ShownEvent) (old mid new : List FieldStats) → AddedBelow i e old mid → length new ≡ length mid →
    AddsAt i e mid new → AddedBelow (i + 1) e old new
one_below i e old mid new s count one = record {
  count = count ∙ s.count;
  below = λ k d vs lt h. below_next s one k d lt h (cases_eq k i);
  rest = λ k d le. one.others k d (λ is. absurd (omega (arith, is, le))) ∙ s.rest k d (omega arith);
}

-- the values of all indices were added
pub all_added :
    (i : ℕ) (e : ShownEvent) (old new : List FieldStats) → length old ≤ i → AddedBelow i e old new →
    AddsValues e old new
all_added i e old new le s = record {
  count = s.count;
  added = λ k d vs lt h. s.below k d vs (omega arith) h;
}

-- ---- fields of no values

-- no field
pub none_made : (fs : List FieldStats) → fs ≡ [] → AreFieldsOf 0 [] fs
none_made fs none = record { count = ap length none; columns = λ i d lt. absurd (omega arith) }

-- a field of no values more
pub one_made :
    (n : ℕ) (fs gs : List FieldStats) (f : FieldStats) → AreFieldsOf n [] fs → gs ≡ fs ++ f ∷ [] → IsFieldOf [] f →
    AreFieldsOf (n + 1) [] gs
one_made n fs gs f s is h =
    let many : length gs ≡ n + 1 =
    ap length is ∙ length-append fs (f ∷ []) ∙ ap (λ (k : ℕ). k + 1) s.count in
    let all : All (IsFieldOf []) gs =
    subst (All (IsFieldOf [])) (sym is)
    (All-push (IsFieldOf []) fs f (λ k d here. s.columns k d (omega (arith, here, s.count))) h) in
    record { count = many; columns = λ i d lt. all i d (omega (arith, lt, many)) }

-- ---- the value of an index

pub value_here :
    (e : ShownEvent) (i : ℕ) (v : Value) → i < length e.values → v ≡ get_or e.values i v →
    full_value i e ≡ in_full e.pools v ∷ []
value_here e i v lt is =
    ap (λ (l : List Value). list_map (in_full e.pools) (take 1 l))
    (drop-cons e.values i v lt ∙ ap (λ (x : Value). x ∷ drop (suc i) e.values) (sym is))

-- no value, where the event has none of the index
pub no_value : (e : ShownEvent) (i : ℕ) → length e.values ≤ i → full_value i e ≡ []
no_value e i le = ap (λ (l : List Value). list_map (in_full e.pools) (take 1 l)) (drop_all i e.values le)

-- nothing was added, where there is no value of the index
pub nothing_at : (i : ℕ) (e : ShownEvent) (fs : List FieldStats) → full_value i e ≡ [] → AddsAt i e fs fs
nothing_at i e fs none = record {
  here = λ d vs h. subst (λ (l : List Value). IsFieldOf l (get_or fs i d))
      (sym (ap (λ (l : List Value). vs ++ l) none ∙ append-nil vs)) h;
  others = λ k d other. refl;
}

pub one_at :
    (i : ℕ) (e : ShownEvent) {v : Value} (old : List FieldStats) {new : List FieldStats} {f : FieldStats}
    (g : FieldStats) → i < length old →
    full_value i e ≡ v ∷ [] → f ≡ get_or old i f → new ≡ set old i g →
    ((vs : List Value) → IsFieldOf vs f → IsFieldOf (vs ++ v ∷ []) g) → AddsAt i e old new
one_at i e {v} old {new} {f} g lt one at put add = record {
  here = λ d vs h.
      let f_is : get_or old i d ≡ f = get_or_default old i d f lt ∙ sym at in
      let g_is : get_or new i d ≡ g =
      ap (λ (l : List FieldStats). get_or l i d) put ∙ get_or-set_same old i g d lt in
      let added : IsFieldOf (vs ++ v ∷ []) g = add vs (subst (λ (x : FieldStats). IsFieldOf vs x) f_is h) in
      subst (λ (l : List Value). IsFieldOf (vs ++ l) (get_or new i d)) (sym one)
      (subst (λ (x : FieldStats). IsFieldOf (vs ++ v ∷ []) x) (sym g_is) added);
  others = λ k d other.
      ap (λ (l : List FieldStats). get_or l k d) put ∙ get_or-set_other old i k g d other;
}

-- ---- an event

columns_more :
    (n : ℕ) (es : List Counted) (c : Counted) (old new : List FieldStats) → AreFieldsOf n es old →
    AddsValues c.event old new → AreFieldsOf n (es ++ c ∷ []) new
columns_more n es c old new s add = record {
  count = add.count ∙ s.count;
  columns = λ i d lt.
      subst (λ (vs : List Value). IsFieldOf vs (get_or new i d))
      (flat_map_more (λ (x : Counted). full_value i x.event) [] es c)
      (add.added i d (column i es) (omega (arith, lt, s.count)) (s.columns i d lt));
}

pub event_more :
    (es : List Counted) (c : Counted) (old new : SchemaStats) → IsSchemaOf es old → new.schema ≡ old.schema →
    ((xs : List ℕ) → IsSummaryOf xs old.times → IsSummaryOf (xs ++ c.event.time ∷ []) new.times) →
    ((xs : List ℕ) → IsSummaryOf xs old.bytes → IsSummaryOf (xs ++ c.bytes ∷ []) new.bytes) →
    AddsValues c.event old.fields.items new.fields.items → IsSchemaOf (es ++ c ∷ []) new
event_more es c old new s same times bytes fields = record {
  times = subst (λ (xs : List ℕ). IsSummaryOf xs new.times) (sym (map_push (λ (x : Counted). x.event.time) es c))
      (times (list_map (λ (x : Counted). x.event.time) es) s.times);
  bytes = subst (λ (xs : List ℕ). IsSummaryOf xs new.bytes) (sym (map_push (λ (x : Counted). x.bytes) es c))
      (bytes (list_map (λ (x : Counted). x.bytes) es) s.bytes);
  fields = subst (λ (n : ℕ). AreFieldsOf n (es ++ c ∷ []) new.fields.items)
      (ap (λ (e : Entry). length e.fields) (sym same))
      (columns_more (length old.schema.fields) es c old.fields.items new.fields.items s.fields fields);
}

-- where the fields took the values of an event, its time and its bytes were counted
pub event_added :
    {E : Type 0} (r : Result (Unit {0}) E) (c : Counted) (old new : SchemaStats) → new.schema ≡ old.schema →
    ((xs : List ℕ) → IsSummaryOf xs old.times → IsSummaryOf (xs ++ c.event.time ∷ []) new.times) →
    ((xs : List ℕ) → IsSummaryOf xs old.bytes → IsSummaryOf (xs ++ c.bytes ∷ []) new.bytes) →
    OnOk r (AddsValues c.event old.fields.items new.fields.items) →
    OnOk r ((es : List Counted) → IsSchemaOf es old → IsSchemaOf (es ++ c ∷ []) new)
event_added (Ok u) c old new same times bytes fields = λ es s. event_more es c old new s same times bytes fields
event_added (Err x) c old new same times bytes fields = tt

-- a schema of no events
pub schema_made :
    (s : SchemaStats) (n : ℕ) → IsSummaryOf [] s.times → IsSummaryOf [] s.bytes → AreFieldsOf n [] s.fields.items →
    n ≡ length s.schema.fields → IsSchemaOf [] s
schema_made s n times bytes fields is = record {
  times = times;
  bytes = bytes;
  fields = subst (λ (k : ℕ). AreFieldsOf k [] s.fields.items) is fields;
}

-- ---- the value of an index, where it was found

-- the value of an index, by where it was found
pub value_in :
    (e : ShownEvent) (fs : List FieldValueRef) (i : ℕ) (x : FieldValueRef) → e.values ≡ ref_views fs → i < length fs →
    x ≡ get_or fs i x → full_value i e ≡ in_full e.pools (ref_view x) ∷ []
value_in e fs i x is lt at =
    let many : length e.values ≡ length fs = ap length is ∙ length-map fs ref_view in
    let here : ref_view x ≡ get_or e.values i (ref_view x) =
    ap ref_view at ∙ sym (get_or-map ref_view fs i x)
    ∙ ap (λ (l : List Value). get_or l i (ref_view x)) (sym is) in
    value_here e i (ref_view x) (omega (arith, many, lt)) here

-- the same of values that own their memory
pub owned_value_in :
    (e : ShownEvent) (vs : List FieldValue) (i : ℕ) (x : FieldValue) → e.values ≡ views vs → i < length vs →
    x ≡ get_or vs i x → full_value i e ≡ in_full e.pools (view x) ∷ []
owned_value_in e vs i x is lt at =
    let many : length e.values ≡ length vs = ap length is ∙ length-map vs view in
    let here : view x ≡ get_or e.values i (view x) =
    ap view at ∙ sym (get_or-map view vs i x) ∙ ap (λ (l : List Value). get_or l i (view x)) (sym is) in
    value_here e i (view x) (omega (arith, many, lt)) here

-- where a field took the value of its index, that was added
pub one_added :
    {E : Type 0} (r : Result (Unit {0}) E) (i : ℕ) (e : ShownEvent) {v : Value} (old : List FieldStats)
    {new : List FieldStats}
    {f : FieldStats} (g : FieldStats) {m : Measure} → ElementAt old i f →
    full_value i e ≡ v ∷ [] → new ≡ set old i g → m ≡ measure_of v →
    OnOk r ((vs : List Value) (w : Value) → m ≡ measure_of w → IsFieldOf vs f → IsFieldOf (vs ++ w ∷ []) g) →
    OnOk r (AddsAt i e old new)
one_added (Ok u) i e {v} old {new} {f} g at one put is add =
    one_at i e old g at.inside one at.is put (λ vs h. add vs v is h)
one_added (Err x) i e old g at one put is add = tt

-- ---- where no more can be counted

-- one at most
few : (f : Value → Value) (vs : List Value) → length (list_map f (take 1 vs)) ≤ 1
few f [] = omega arith
few f (v ∷ vs) = omega arith

-- there are no more values of an index than events
column_few : (i : ℕ) (es : List Counted) → length (column i es) ≤ length es
column_few i [] = omega arith
column_few i (c ∷ es) =
    omega (
      arith,
      length-append (full_value i c.event) (column i es),
      few (in_full c.event.pools) (drop i c.event.values),
      column_few i es,
    )

-- no more values of an index can be counted, and so no more events
pub fields_full :
    (i n : ℕ) (e : ShownEvent) (es : List Counted) (old mid : List FieldStats) → i < length old →
    AddedBelow i e old mid → IsFullAt i mid → AreFieldsOf n es old → most_counted ≤ length es
fields_full i n e es [] mid lt s full h = absurd (omega arith)
fields_full i n e es (f ∷ fs) mid lt s full h =
    let has : IsFieldOf (column i es) (get_or mid i f) =
    subst (λ (g : FieldStats). IsFieldOf (column i es) g) (sym (s.rest i f (omega arith)))
    (h.columns i f (omega (arith, lt, h.count))) in
    omega (arith, column_few i es, full f (column i es) has)
