-- One event more of a trace.
use Rattle.std.proofs.Common.{◌≡◌, ◌<◌, ◌≤◌, inl, inr, ◌+◌, ℕ, Bool, true, false, List, [], ◌∷◌, ◌++◌, length}
use Rattle.std.proofs.Common.{get_or, set, map as list_map, refl, sym, ap, subst, ◌∙◌, append-nil, arith}
use Rattle.std.proofs.Common.{length-append, Result, Ok, Err, OnOk, OnErr}
use Rattle.std.proofs.Math.ListN.{get_or-map, length-set}
use Rattle.std.specs.Prelude.{if◌then◌else◌, ◌||◌, IfErr}
use Rattle.std.specs.List.{All, fold, list_any}
use Rattle.std.proofs.lemmas.Bool.{cases_eq, cases_lt, cases_Bool, false_from_ne_true}
use Rattle.std.proofs.lemmas.List.{get_or_default, get_or-set_same, get_or-set_other, map_push, length-map}
use Rattle.std.proofs.lemmas.List.{get_or_append_left}
use Rattle.std.proofs.lemmas.List.Elements.{All-push, filter-append}
use Rattle.std.proofs.lemmas.List.Folds.{list_any-append, list_any_at, list_any_none}
use Rattle.std.proofs.lemmas.List.Sums.{fold-append}
use Rattle.std.proofs.Math.Seq.{get_or-append_seam, map-set_same}
use Rattle.trace_wire.specs.Schemas.{Entry, same_entry}
use Rattle.trace_wire.proofs.SameEntries.{same_entry-Decides}
use Rattle.trace_stats.specs.Summaries.{most_counted}
use Rattle.trace_stats.specs.Events.{Counted, IsSchemaOf}
use Rattle.trace_events.specs.Schemas.{bare, is_same_schema}
use Rattle.trace_stats.specs.Traces.{is_of, of_schema, with_schema, schemas_of, AreStatsOf}
use Rattle.trace_stats.specs.parts.Places.{IsPlaceOf, IsNoPlaceOf, HasNoPlace, IsPutLast, FindsPlace, answer_of}
use Rattle.trace_stats.specs.Refusals.{RefusesEvent}
use Rattle.trace_stats.specs.declared.full.Full.{Full}
use Rattle.trace_stats.specs.declared.schema.SchemaStats.{SchemaStats}
use Rattle.trace_stats.specs.declared.trace.StatsError.{StatsError}
use Rattle.trace_stats.specs.declared.trace.TraceStats.{TraceStats}

differ : (b : Bool) → b ≡ true → b ≡ false → ⊥
differ b x y = let no : true ≡ false = sym x ∙ y in (cc)

-- ---- the test for the same schema

same_is : (a b : Entry) → is_same_schema a b ≡ true → bare a ≡ bare b
same_is a b e = (same_entry-Decides (bare a) (bare b)).0 e

is_same : (a b : Entry) → bare a ≡ bare b → is_same_schema a b ≡ true
is_same a b e = (same_entry-Decides (bare a) (bare b)).1 e

-- schemas that are both the same as one are the same
same_both : (a b c : Entry) → is_same_schema a c ≡ true → is_same_schema b c ≡ true → is_same_schema a b ≡ true
same_both a b c x y = is_same a b (same_is a c x ∙ sym (same_is b c y))

-- ---- lists of schemas

none_passes :
    {X : Type 0} (p : X → Bool) (xs : List X) (i : ℕ) (d : X) → list_any p xs ≡ false → i < length xs →
    p (get_or xs i d) ≡ false
none_passes p xs i d none lt =
    false_from_ne_true (p (get_or xs i d))
    (λ e. let s : list_any p xs ≡ true = list_any_at p xs i d lt e in differ (list_any p xs) s none)

-- with a schema that is known
with_known : (ss : List Entry) (c : Counted) → list_any (λ e. is_of e c) ss ≡ true → with_schema ss c ≡ ss
with_known ss c e = ap (λ (b : Bool). if b then ss else ss ++ bare c.event.entry ∷ []) e

-- with one that is new
with_new :
    (ss : List Entry) (c : Counted) → list_any (λ e. is_of e c) ss ≡ false →
    with_schema ss c ≡ ss ++ bare c.event.entry ∷ []
with_new ss c e = ap (λ (b : Bool). if b then ss else ss ++ bare c.event.entry ∷ []) e

-- a schema stays among them
stays_one :
    (p : Entry → Bool) (ss : List Entry) (c : Counted) → list_any p ss ≡ true →
    list_any p (with_schema ss c) ≡ true
stays_one p ss c e =
    elim (cases_Bool (list_any (λ s. is_of s c) ss)) [
      | inl is ↦ ap (list_any p) (with_known ss c is) ∙ e
      | inr is ↦ ap (list_any p) (with_new ss c is) ∙ list_any-append p ss (bare c.event.entry ∷ [])
          ∙ ap (λ (b : Bool). b || list_any p (bare c.event.entry ∷ [])) e
    ]

stays :
    (p : Entry → Bool) (ss : List Entry) (es : List Counted) → list_any p ss ≡ true →
    list_any p (fold with_schema ss es) ≡ true
stays p ss [] e = e
stays p ss (c ∷ es) e = stays p (with_schema ss c) es (stays_one p ss c e)

-- the schema of an event is among them then
has_own : (ss : List Entry) (c : Counted) → list_any (λ e. is_of e c) (with_schema ss c) ≡ true
has_own ss c =
    let x : Entry = bare c.event.entry in
    elim (cases_Bool (list_any (λ s. is_of s c) ss)) [
      | inl is ↦ ap (list_any (λ s. is_of s c)) (with_known ss c is) ∙ is
      | inr is ↦ ap (list_any (λ s. is_of s c)) (with_new ss c is)
          ∙ list_any_at (λ s. is_of s c) (ss ++ x ∷ []) (length ss) x (omega (arith, length-append ss (x ∷ [])))
          (ap (λ (s : Entry). is_of s c) (get_or-append_seam ss x [] x) ∙ is_same x c.event.entry refl)
    ]

-- of a schema that is not among those of events there are none
none_of :
    (e : Entry) (ss : List Entry) (es : List Counted) →
    list_any (λ s. is_same_schema s e) (fold with_schema ss es) ≡ false → of_schema e es ≡ []
none_of e ss [] none = refl
none_of e ss (c ∷ es) none =
    let other : is_of e c ≡ false =
    false_from_ne_true (is_of e c)
    (λ is.
    let there : list_any (λ s. is_same_schema s e) (fold with_schema (with_schema ss c) es) ≡ true =
    stays (λ s. is_same_schema s e) (with_schema ss c) es
    (ap (λ (x : Entry). list_any (λ s. same_entry (bare s) x) (with_schema ss c)) (same_is e c.event.entry is)
    ∙ has_own ss c) in
    differ (list_any (λ s. is_same_schema s e) (fold with_schema (with_schema ss c) es)) there none) in
    ap (λ (b : Bool). if b then c ∷ of_schema e es else of_schema e es) other ∙ none_of e (with_schema ss c) es none

-- no two of them are the same
abbrev Distinct : List Entry → Type 0
Distinct ss =
    (i j : ℕ) (d : Entry) → i < j → j < length ss → is_same_schema (get_or ss i d) (get_or ss j d) ≡ false

distinct_put :
    (ss : List Entry) (c : Counted) → Distinct ss → list_any (λ e. is_of e c) ss ≡ false →
    Distinct (ss ++ bare c.event.entry ∷ [])
distinct_put ss c apart none i j d lt inside =
    let x : Entry = bare c.event.entry in
    let many : length (ss ++ x ∷ []) ≡ length ss + 1 = length-append ss (x ∷ []) in
    let before : i < length ss = omega arith in
    let left : get_or (ss ++ x ∷ []) i d ≡ get_or ss i d = get_or_append_left ss (x ∷ []) d i before in
    elim (cases_eq j (length ss)) [
      | inl is ↦ (let last : get_or (ss ++ x ∷ []) j d ≡ x =
          ap (λ (k : ℕ). get_or (ss ++ x ∷ []) k d) is ∙ get_or-append_seam ss x [] d in
          ap (λ (a : Entry). is_same_schema a (get_or (ss ++ x ∷ []) j d)) left
          ∙ ap (λ (b : Entry). is_same_schema (get_or ss i d) b) last
          ∙ none_passes (λ e. is_of e c) ss i d none before)
      | inr other ↦ (let below : j < length ss = omega arith in
          ap (λ (a : Entry). is_same_schema a (get_or (ss ++ x ∷ []) j d)) left
          ∙ ap (λ (b : Entry). is_same_schema (get_or ss i d) b) (get_or_append_left ss (x ∷ []) d j below)
          ∙ apart i j d lt below)
    ]

distinct_one : (ss : List Entry) (c : Counted) → Distinct ss → Distinct (with_schema ss c)
distinct_one ss c apart =
    elim (cases_Bool (list_any (λ s. is_of s c) ss)) [
      | inl is ↦ subst Distinct (sym (with_known ss c is)) apart
      | inr is ↦ subst Distinct (sym (with_new ss c is)) (distinct_put ss c apart is)
    ]

distinct : (ss : List Entry) (es : List Counted) → Distinct ss → Distinct (fold with_schema ss es)
distinct ss [] apart = apart
distinct ss (c ∷ es) apart = distinct (with_schema ss c) es (distinct_one ss c apart)

-- ---- where the schema of an event stands

-- the schemas in what is kept
abbrev schemas_in : List SchemaStats → List Entry
schemas_in ts = list_map (λ s. s.schema) ts

schema_at :
    (ts : List SchemaStats) (k : ℕ) (d : SchemaStats) →
    get_or (schemas_in ts) k d.schema ≡ (get_or ts k d).schema
schema_at ts k d = get_or-map (λ (s : SchemaStats). s.schema) ts k d

-- schemas of two places are not the same
apart_at :
    (ts : List SchemaStats) (i j : ℕ) (d : SchemaStats) → Distinct (schemas_in ts) → i < j → j < length ts →
    is_same_schema (get_or ts i d).schema (get_or ts j d).schema ≡ false
apart_at ts i j d apart lt inside =
    ap (λ (a : Entry). is_same_schema a (get_or ts j d).schema) (sym (schema_at ts i d))
    ∙ ap (λ (b : Entry). is_same_schema (get_or (schemas_in ts) i d.schema) b) (sym (schema_at ts j d))
    ∙ apart i j d.schema lt (omega (arith, length-map ts (λ (s : SchemaStats). s.schema)))

-- so an event is of one of them alone
others_differ :
    (ts : List SchemaStats) (c : Counted) (i k : ℕ) (d : SchemaStats) → Distinct (schemas_in ts) →
    IsPlaceOf c.event.entry ts i → k < length ts → (k ≡ i → ⊥) → is_of (get_or ts k d).schema c ≡ false
others_differ ts c i k d apart place inside other =
    let a : Entry = (get_or ts k d).schema in
    let b : Entry = (get_or ts i d).schema in
    false_from_ne_true (is_of a c)
    (λ is.
    let both : is_same_schema a b ≡ true = same_both a b c.event.entry is (place.same d) in
    let turned : is_same_schema b a ≡ true = same_both b a c.event.entry (place.same d) is in
    elim (cases_lt k i) [
      | inl lt ↦ differ (is_same_schema a b) both (apart_at ts k i d apart lt place.inside)
      | inr le ↦ (let lt : i < k = omega (arith, other) in
          differ (is_same_schema b a) turned (apart_at ts i k d apart lt inside))
    ])

-- Of each place, what is kept of the events; the schema of an event stands at one alone, and they are those of the
-- events with it.
pub record IsReady (es : List Counted) (c : Counted) (ts : List SchemaStats) (i : ℕ) : Type 0 where
  pub inside : i < length ts
  pub each : All (λ s. IsSchemaOf (of_schema s.schema es) s) ts
  pub here : (d : SchemaStats) → is_of (get_or ts i d).schema c ≡ true
  pub others : (k : ℕ) (d : SchemaStats) → k < length ts → (k ≡ i → ⊥) → is_of (get_or ts k d).schema c ≡ false
  pub schemas : schemas_in ts ≡ with_schema (schemas_of es) c

-- where it stood before
ready_there :
    (es : List Counted) (c : Counted) (t : TraceStats) (i : ℕ) → AreStatsOf es t →
    IsPlaceOf c.event.entry t.schemas.items i → (d : SchemaStats) → IsReady es c t.schemas.items i
ready_there es c t i s place d =
    let ts : List SchemaStats = t.schemas.items in
    let apart : Distinct (schemas_in ts) =
    subst Distinct (sym s.schemas) (distinct [] es (λ i j d lt inside. absurd (omega (arith, inside)))) in
    let some : list_any (λ e. is_of e c) (schemas_in ts) ≡ true =
    list_any_at (λ e. is_of e c) (schemas_in ts) i d.schema
    (omega (arith, place.inside, length-map ts (λ (s : SchemaStats). s.schema)))
    (ap (λ (e : Entry). is_of e c) (schema_at ts i d) ∙ place.same d) in
    record {
      inside = place.inside;
      each = s.each;
      here = place.same;
      others = λ k d lt other. others_differ ts c i k d apart place lt other;
      schemas = sym (with_known (schemas_in ts) c some) ∙ ap (λ (l : List Entry). with_schema l c) s.schemas;
    }

-- where it was put in
ready_last :
    (es : List Counted) (c : Counted) (t : TraceStats) (new : List SchemaStats) (i : ℕ) → AreStatsOf es t →
    IsPutLast c.event.entry t.schemas.items new i → IsReady es c new i
ready_last es c t new i s last =
    let old : List SchemaStats = t.schemas.items in
    let e : Entry = c.event.entry in
    let x : SchemaStats = last.stats in
    let many : length (old ++ x ∷ []) ≡ length old + 1 = length-append old (x ∷ []) in
    let none : list_any (λ a. is_of a c) (schemas_in old) ≡ false =
    list_any_none (λ a. is_of a c) (schemas_in old)
    (λ k d lt.
    let below : k < length old = omega (arith, lt, length-map old (λ (s : SchemaStats). s.schema)) in
    let at : get_or (schemas_in old) k d ≡ (get_or old k x).schema =
    get_or_default (schemas_in old) k d x.schema lt ∙ schema_at old k x in
    ap (λ (a : Entry). is_of a c) at ∙ last.none k x below) in
    let of_none : of_schema e es ≡ [] =
    none_of e [] es (ap (λ (l : List Entry). list_any (λ a. is_of a c) l) (sym s.schemas) ∙ none) in
    let own : IsSchemaOf (of_schema x.schema es) x =
    subst (λ (l : List Counted). IsSchemaOf l x)
    (sym (ap (λ (a : Entry). of_schema a es) last.schema ∙ of_none)) last.empty in
    let at_end : (d : SchemaStats) → get_or (old ++ x ∷ []) i d ≡ x =
    λ d. ap (λ (k : ℕ). get_or (old ++ x ∷ []) k d) last.place ∙ get_or-append_seam old x [] d in
    subst (λ (l : List SchemaStats). IsReady es c l i) (sym last.put)
    (record {
      inside = omega (arith, many, last.place);
      each = All-push (λ s. IsSchemaOf (of_schema s.schema es) s) old x s.each own;
      here = λ d. ap (λ (a : SchemaStats). is_of a.schema c) (at_end d)
          ∙ ap (λ (a : Entry). is_of a c) last.schema ∙ is_same (bare e) e refl;
      others = λ k d lt other.
          let below : k < length old = omega (arith, lt, many, last.place, other) in
          ap (λ (a : SchemaStats). is_of a.schema c) (get_or_append_left old (x ∷ []) d k below)
          ∙ last.none k d below;
      schemas = map_push (λ (a : SchemaStats). a.schema) old x
          ∙ ap (λ (a : Entry). schemas_in old ++ a ∷ []) last.schema ∙ sym (with_new (schemas_in old) c none)
          ∙ ap (λ (l : List Entry). with_schema l c) s.schemas;
    })

ready :
    (es : List Counted) (c : Counted) (t : TraceStats) (new : List SchemaStats) (i : ℕ) (d : SchemaStats) →
    AreStatsOf es t → FindsPlace c.event.entry t.schemas.items new i → IsReady es c new i
ready es c t new i d s (inl there) =
    subst (λ (l : List SchemaStats). IsReady es c l i) (sym there.1) (ready_there es c t i s there.0 d)
ready es c t new i d s (inr last) = ready_last es c t new i s last

-- ---- an event

of_schema_more :
    (e : Entry) (es : List Counted) (c : Counted) → is_of e c ≡ true →
    of_schema e (es ++ c ∷ []) ≡ of_schema e es ++ c ∷ []
of_schema_more e es c is =
    filter-append (is_of e) es (c ∷ [])
    ∙ ap (λ (b : Bool). of_schema e es ++ (if b then c ∷ [] else [])) is

of_schema_same :
    (e : Entry) (es : List Counted) (c : Counted) → is_of e c ≡ false →
    of_schema e (es ++ c ∷ []) ≡ of_schema e es
of_schema_same e es c is =
    filter-append (is_of e) es (c ∷ [])
    ∙ ap (λ (b : Bool). of_schema e es ++ (if b then c ∷ [] else [])) is ∙ append-nil (of_schema e es)

-- what is kept of a schema took an event
abbrev pub TakesEvent : Counted → SchemaStats → SchemaStats → Type 0
TakesEvent c f g = (xs : List Counted) → IsSchemaOf xs f → IsSchemaOf (xs ++ c ∷ []) g

each_more :
    (es : List Counted) (c : Counted) (mid : List SchemaStats) (i : ℕ) (f g : SchemaStats) → IsReady es c mid i →
    f ≡ get_or mid i f → g.schema ≡ f.schema → TakesEvent c f g →
    All (λ s. IsSchemaOf (of_schema s.schema (es ++ c ∷ [])) s) (set mid i g)
each_more es c mid i f g r at same take k d lt =
    let inside : k < length mid = omega (arith, lt, length-set mid i g) in
    elim (cases_eq k i) [
      | inl is ↦ (let here : get_or (set mid i g) k d ≡ g =
          ap (λ (j : ℕ). get_or (set mid i g) j d) is ∙ get_or-set_same mid i g d r.inside in
          let old : IsSchemaOf (of_schema f.schema es) f =
          subst (λ (s : SchemaStats). IsSchemaOf (of_schema s.schema es) s) (sym at) (r.each i f r.inside) in
          let own : is_of f.schema c ≡ true = ap (λ (s : SchemaStats). is_of s.schema c) at ∙ r.here f in
          let now : IsSchemaOf (of_schema g.schema (es ++ c ∷ [])) g =
          subst (λ (l : List Counted). IsSchemaOf l g)
          (sym (ap (λ (e : Entry). of_schema e (es ++ c ∷ [])) same ∙ of_schema_more f.schema es c own))
          (take (of_schema f.schema es) old) in
          subst (λ (s : SchemaStats). IsSchemaOf (of_schema s.schema (es ++ c ∷ [])) s) (sym here) now)
      | inr other ↦ (let x : SchemaStats = get_or mid k d in
          let there : get_or (set mid i g) k d ≡ x = get_or-set_other mid i k g d other in
          let now : IsSchemaOf (of_schema x.schema (es ++ c ∷ [])) x =
          subst (λ (l : List Counted). IsSchemaOf l x)
          (sym (of_schema_same x.schema es c (r.others k d inside other))) (r.each k d inside) in
          subst (λ (s : SchemaStats). IsSchemaOf (of_schema s.schema (es ++ c ∷ [])) s) (sym there) now)
    ]

-- in a list of schemas one was put in for another, of the same schema
pub record IsPutBack (mid : List SchemaStats) (new : TraceStats) (i : ℕ) (f g : SchemaStats) : Type 0 where
  pub at : f ≡ get_or mid i f
  pub put : new.schemas.items ≡ set mid i g
  pub same : g.schema ≡ f.schema

stats_more :
    (es : List Counted) (c : Counted) {mid : List SchemaStats} (new : TraceStats) {i : ℕ} (f g : SchemaStats) →
    IsReady es c mid i → IsPutBack mid new i f g → TakesEvent c f g → AreStatsOf (es ++ c ∷ []) new
stats_more es c {mid} new {i} f g r back take = record {
  schemas = ap schemas_in back.put
      ∙ map-set_same (λ (s : SchemaStats). s.schema) mid i g f
      (back.same ∙ ap (λ (s : SchemaStats). s.schema) back.at)
      ∙ r.schemas ∙ sym (fold-append with_schema [] es (c ∷ []));
  each = subst (All (λ s. IsSchemaOf (of_schema s.schema (es ++ c ∷ [])) s)) (sym back.put)
      (each_more es c mid i f g r back.at back.same take);
}

-- where what is kept of a schema took an event, what is kept of the trace did
pub event_taken :
    (r : Result (Unit {0}) Full) {answer : Result (Unit {0}) StatsError} (c : Counted) (old : TraceStats)
    {mid : List SchemaStats} (new : TraceStats) {i : ℕ} (f g : SchemaStats) → answer ≡ answer_of r →
    FindsPlace c.event.entry old.schemas.items mid i → IsPutBack mid new i f g → OnOk r (TakesEvent c f g) →
    OnOk answer ((es : List Counted) → AreStatsOf es old → AreStatsOf (es ++ c ∷ []) new)
event_taken (Ok u) c old {mid} new {i} f g is place back take =
    subst
    (λ (a : Result (Unit {0}) StatsError).
    OnOk a ((es : List Counted) → AreStatsOf es old → AreStatsOf (es ++ c ∷ []) new)) (sym is)
    (λ es s. stats_more es c new f g (ready es c old mid i f s place) back take)
event_taken (Err x) c old new f g is place back take =
    subst
    (λ (a : Result (Unit {0}) StatsError).
    OnOk a ((es : List Counted) → AreStatsOf es old → AreStatsOf (es ++ c ∷ []) new)) (sym is) tt

-- ---- where no more can be counted

few : (e : Entry) (es : List Counted) → length (of_schema e es) ≤ length es
few e [] = omega arith
few e (c ∷ es) =
    elim (cases_Bool (is_of e c)) [
      | inl is ↦ (let same : of_schema e (c ∷ es) ≡ c ∷ of_schema e es =
          ap (λ (b : Bool). if b then c ∷ of_schema e es else of_schema e es) is in
          omega (arith, ap length same, few e es))
      | inr is ↦ (let same : of_schema e (c ∷ es) ≡ of_schema e es =
          ap (λ (b : Bool). if b then c ∷ of_schema e es else of_schema e es) is in
          omega (arith, ap length same, few e es))
    ]

events_full :
    (c : Counted) (old : TraceStats) (mid : List SchemaStats) (i : ℕ) (f : SchemaStats) →
    FindsPlace c.event.entry old.schemas.items mid i → f ≡ get_or mid i f →
    ((xs : List Counted) → IsSchemaOf xs f → most_counted ≤ length xs) → (es : List Counted) → AreStatsOf es old →
    most_counted ≤ length es
events_full c old mid i f place at full es s =
    let r : IsReady es c mid i = ready es c old mid i f s place in
    let kept : IsSchemaOf (of_schema f.schema es) f =
    subst (λ (x : SchemaStats). IsSchemaOf (of_schema x.schema es) x) (sym at) (r.each i f r.inside) in
    omega (arith, few f.schema es, full (of_schema f.schema es) kept)

-- where no more events of a schema can be counted, no more events can
pub event_refused :
    (r : Result (Unit {0}) Full) {answer : Result (Unit {0}) StatsError} (c : Counted) (old : TraceStats)
    {mid : List SchemaStats} (new : TraceStats) {i : ℕ} (f : SchemaStats) → answer ≡ answer_of r →
    FindsPlace c.event.entry old.schemas.items mid i → f ≡ get_or mid i f →
    OnErr r ((xs : List Counted) → IsSchemaOf xs f → most_counted ≤ length xs) →
    IfErr answer (RefusesEvent old new)
event_refused (Ok u) c old new f is place at full =
    subst (λ (a : Result (Unit {0}) StatsError). IfErr a (RefusesEvent old new)) (sym is) tt
event_refused (Err x) c old {mid} new {i} f is place at full =
    subst (λ (a : Result (Unit {0}) StatsError). IfErr a (RefusesEvent old new)) (sym is)
    (events_full c old mid i f place at full)

-- no events
pub stats_none : (t : TraceStats) → t.schemas.items ≡ [] → AreStatsOf [] t
stats_none t none = record {
  schemas = ap schemas_in none;
  each = subst (All (λ s. IsSchemaOf (of_schema s.schema []) s)) (sym none) (λ k d lt. absurd (omega (arith, lt)));
}

-- ---- looking for a place

-- a place whose schema passes the test
pub place_found :
    (e : Entry) (ts : List SchemaStats) (i : ℕ) (x : SchemaStats) (b : Bool) → i < length ts → x ≡ get_or ts i x →
    b ≡ is_same_schema x.schema e → b ≡ true → IsPlaceOf e ts i
place_found e ts i x b lt at is holds = record {
  inside = lt;
  same = λ d.
      ap (λ (s : SchemaStats). is_same_schema s.schema e) (get_or_default ts i d x lt ∙ sym at) ∙ sym is ∙ holds;
}

-- it stands at none of the first places
abbrev pub NoneBelow : Entry → List SchemaStats → ℕ → Type 0
NoneBelow e ts n =
    (k : ℕ) (d : SchemaStats) → k < n → is_same_schema (get_or ts k d).schema e ≡ false

-- before the first place it stands nowhere
pub none_first : (e : Entry) (ts : List SchemaStats) → NoneBelow e ts 0
none_first e ts k d lt = absurd (omega (arith, lt))

-- a place whose schema fails the test
pub no_place :
    (e : Entry) (ts : List SchemaStats) (i : ℕ) (x : SchemaStats) (b : Bool) → i < length ts → x ≡ get_or ts i x →
    b ≡ is_same_schema x.schema e → b ≡ false → IsNoPlaceOf e ts i
no_place e ts i x b inside at is fails d =
    ap (λ (s : SchemaStats). is_same_schema s.schema e) (get_or_default ts i d x inside ∙ sym at) ∙ sym is ∙ fails

-- one place more where it does not stand
pub none_next :
    (e : Entry) (ts : List SchemaStats) (i : ℕ) → NoneBelow e ts i → IsNoPlaceOf e ts i → NoneBelow e ts (i + 1)
none_next e ts i before here k d lt =
    elim (cases_eq k i) [
      | inl is ↦ ap (λ (j : ℕ). is_same_schema (get_or ts j d).schema e) is ∙ here d
      | inr other ↦ before k d (omega (arith, other))
    ]

-- it stands at none of all places
pub none_of_all : (e : Entry) (ts : List SchemaStats) (i : ℕ) → length ts ≤ i → NoneBelow e ts i → HasNoPlace e ts
none_of_all e ts i le none k d lt = none k d (omega arith)

-- it was put in last
pub placed_last :
    (e : Entry) (old new : List SchemaStats) (s : SchemaStats) (i : ℕ) → HasNoPlace e old → i ≡ length old →
    new ≡ old ++ s ∷ [] → s.schema ≡ bare e → IsSchemaOf [] s → FindsPlace e old new i
placed_last e old new s i none at put schema empty =
    inr (record { none = none; place = at; stats = s; put = put; schema = schema; empty = empty })

-- the place that was found is one of them
pub placed_inside :
    (e : Entry) (old new : List SchemaStats) (i : ℕ) → FindsPlace e old new i → i < length new
placed_inside e old new i (inl there) =
    let p : i < length old = there.0.inside in omega (arith, ap length there.1)
placed_inside e old new i (inr last) =
    omega (arith, last.place, ap length last.put, length-append old (last.stats ∷ []))
