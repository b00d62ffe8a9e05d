-- One value more of a field.
use Rattle.std.proofs.Common.{◌≡◌, ◌≤◌, ℕ, arith, length, length-append, OnErr}
use Rattle.std.proofs.Common.{List, [], ◌∷◌, ◌++◌, refl, sym, ap, subst, ◌∙◌, append-nil, Result, Ok, Err, OnOk}
use Rattle.std.specs.List.{flat_map}
use Rattle.std.proofs.lemmas.List.{flat_map_more}
use Rattle.trace_values.specs.Values.{Value}
use Rattle.trace_stats.specs.Summaries.{IsSummaryOf, most_counted}
use Rattle.trace_stats.specs.Fields.{IsFieldOf, measure_of, natural_in, negative_in, float_in}
use Rattle.trace_stats.specs.Fields.{length_in}
use Rattle.trace_stats.specs.FloatSummaries.{IsFloatSummaryOf}
use Rattle.trace_stats.specs.declared.field.FieldStats.{FieldStats}
use Rattle.trace_stats.specs.declared.measure.Measure.{Measure}
use Rattle.trace_stats.specs.declared.measure.Measure.TheVariants.{Natural, Negative, Float, Length, Nothing}
use Rattle.trace_stats.specs.declared.summary.Summary.{Summary}
use Rattle.trace_stats.specs.declared.float.FloatSummary.{FloatSummary}

-- what is counted of values in one way
abbrev counted_of : (Measure → List ℕ) → List Value → List ℕ
counted_of f vs = flat_map (λ v. f (measure_of v)) vs

counted_more : (f : Measure → List ℕ) (vs : List Value) (v : Value) (m : Measure) → m ≡ measure_of v →
    counted_of f (vs ++ v ∷ []) ≡ counted_of f vs ++ f m
counted_more f vs v m is =
    sym (flat_map_more (λ u. f (measure_of u)) [] vs v) ∙ ap (λ (k : Measure). counted_of f vs ++ f k) (sym is)

-- what is so of the things that are counted of values stays so where nothing is counted of one more
stays :
    (P : List ℕ → Type 0) (f : Measure → List ℕ) (vs : List Value) (v : Value) (m : Measure) → m ≡ measure_of v →
    f m ≡ [] → P (counted_of f vs) → P (counted_of f (vs ++ v ∷ []))
stays P f vs v m is none h =
    let same : counted_of f (vs ++ v ∷ []) ≡ counted_of f vs =
    counted_more f vs v m is ∙ ap (λ (l : List ℕ). counted_of f vs ++ l) none ∙ append-nil (counted_of f vs) in
    subst P (sym same) h

-- a summary stays
same_summary :
    (f : Measure → List ℕ) (vs : List Value) (v : Value) (m : Measure) (s : Summary) → m ≡ measure_of v → f m ≡ [] →
    IsSummaryOf (counted_of f vs) s → IsSummaryOf (counted_of f (vs ++ v ∷ [])) s
same_summary f vs v m s is none h = stays (λ xs. IsSummaryOf xs s) f vs v m is none h

-- so does one of floats
same_floats :
    (vs : List Value) (v : Value) (m : Measure) (s : FloatSummary) → m ≡ measure_of v → float_in m ≡ [] →
    IsFloatSummaryOf (counted_of float_in vs) s → IsFloatSummaryOf (counted_of float_in (vs ++ v ∷ [])) s
same_floats vs v m s is none h = stays (λ xs. IsFloatSummaryOf xs s) float_in vs v m is none h

-- what is so of them becomes so of one more
grows :
    (P Q : List ℕ → Type 0) (f : Measure → List ℕ) (vs : List Value) (v : Value) {m : Measure} {n : ℕ}
    → m ≡ measure_of v → f m ≡ n ∷ [] → ((xs : List ℕ) → P xs → Q (xs ++ n ∷ [])) → P (counted_of f vs) →
    Q (counted_of f (vs ++ v ∷ []))
grows P Q f vs v {m} {n} is one add h =
    let same : counted_of f (vs ++ v ∷ []) ≡ counted_of f vs ++ n ∷ [] =
    counted_more f vs v m is ∙ ap (λ (l : List ℕ). counted_of f vs ++ l) one in
    subst Q (sym same) (add (counted_of f vs) h)

-- a number was added
abbrev pub Adds : ℕ → Summary → Summary → Type 0
Adds n s t = (xs : List ℕ) → IsSummaryOf xs s → IsSummaryOf (xs ++ n ∷ []) t

-- a float was
abbrev pub AddsFloat : ℕ → FloatSummary → FloatSummary → Type 0
AddsFloat n s t = (xs : List ℕ) → IsFloatSummaryOf xs s → IsFloatSummaryOf (xs ++ n ∷ []) t

-- a summary with one more number
more_summary :
    (f : Measure → List ℕ) (vs : List Value) (v : Value) {m : Measure} {n : ℕ} {s : Summary} (t : Summary) →
    m ≡ measure_of v → f m ≡ n ∷ [] → Adds n s t → IsSummaryOf (counted_of f vs) s →
    IsSummaryOf (counted_of f (vs ++ v ∷ [])) t
more_summary f vs v {m} {n} {s} t is one add h =
    grows (λ xs. IsSummaryOf xs s) (λ xs. IsSummaryOf xs t) f vs v {m = m} {n = n} is one add h

-- a value was added, of which this is counted
abbrev pub AddsValue : Measure → FieldStats → FieldStats → Type 0
AddsValue m old new =
    (vs : List Value) (v : Value) → m ≡ measure_of v → IsFieldOf vs old → IsFieldOf (vs ++ v ∷ []) new

-- where a summary took a number from 0 on, the field took the value
pub natural_added :
    {E : Type 0} (r : Result (Unit {0}) E) (n : ℕ) (old : FieldStats) (t : Summary) → OnOk r (Adds n old.naturals t) →
    OnOk r (AddsValue (Natural n) old
    (record { naturals = t; negatives = old.negatives; floats = old.floats; lengths = old.lengths }))
natural_added (Ok u) n old t add = λ vs v is h. record {
  naturals = more_summary natural_in vs v {n = n} t is refl add h.naturals;
  negatives = same_summary negative_in vs v (Natural n) old.negatives is refl h.negatives;
  floats = same_floats vs v (Natural n) old.floats is refl h.floats;
  lengths = same_summary length_in vs v (Natural n) old.lengths is refl h.lengths;
}
natural_added (Err e) n old t add = tt

-- the same of a number below 0
pub negative_added :
    {E : Type 0} (r : Result (Unit {0}) E) (n : ℕ) (old : FieldStats) (t : Summary) → OnOk r (Adds n old.negatives t)
    →
    OnOk r (AddsValue (Negative n) old
    (record { naturals = old.naturals; negatives = t; floats = old.floats; lengths = old.lengths }))
negative_added (Ok u) n old t add = λ vs v is h. record {
  naturals = same_summary natural_in vs v (Negative n) old.naturals is refl h.naturals;
  negatives = more_summary negative_in vs v {n = n} t is refl add h.negatives;
  floats = same_floats vs v (Negative n) old.floats is refl h.floats;
  lengths = same_summary length_in vs v (Negative n) old.lengths is refl h.lengths;
}
negative_added (Err e) n old t add = tt

-- the same of a length
pub length_added :
    {E : Type 0} (r : Result (Unit {0}) E) (n : ℕ) (old : FieldStats) (t : Summary) → OnOk r (Adds n old.lengths t) →
    OnOk r (AddsValue (Length n) old
    (record { naturals = old.naturals; negatives = old.negatives; floats = old.floats; lengths = t }))
length_added (Ok u) n old t add = λ vs v is h. record {
  naturals = same_summary natural_in vs v (Length n) old.naturals is refl h.naturals;
  negatives = same_summary negative_in vs v (Length n) old.negatives is refl h.negatives;
  floats = same_floats vs v (Length n) old.floats is refl h.floats;
  lengths = more_summary length_in vs v {n = n} t is refl add h.lengths;
}
length_added (Err e) n old t add = tt

-- the same of a float
pub float_added :
    {E : Type 0} (r : Result (Unit {0}) E) (n : ℕ) (old : FieldStats) (t : FloatSummary) →
    OnOk r (AddsFloat n old.floats t) →
    OnOk r (AddsValue (Float n) old
    (record { naturals = old.naturals; negatives = old.negatives; floats = t; lengths = old.lengths }))
float_added (Ok u) n old t add = λ vs v is h. record {
  naturals = same_summary natural_in vs v (Float n) old.naturals is refl h.naturals;
  negatives = same_summary negative_in vs v (Float n) old.negatives is refl h.negatives;
  floats = grows (λ xs. IsFloatSummaryOf xs old.floats) (λ xs. IsFloatSummaryOf xs t) float_in vs v {m = Float n}
      {n = n} is refl add h.floats;
  lengths = same_summary length_in vs v (Float n) old.lengths is refl h.lengths;
}
float_added (Err e) n old t add = tt

-- a value of which nothing is counted
pub nothing_added : (m : Measure) (old : FieldStats) → m ≡ Nothing → AddsValue m old old
nothing_added m old none vs v is h =
    let here : Nothing ≡ measure_of v = sym none ∙ is in record {
      naturals = same_summary natural_in vs v Nothing old.naturals here refl h.naturals;
      negatives = same_summary negative_in vs v Nothing old.negatives here refl h.negatives;
      floats = same_floats vs v Nothing old.floats here refl h.floats;
      lengths = same_summary length_in vs v Nothing old.lengths here refl h.lengths;
    }

-- a value was added, by what was counted of it
pub by_measure :
    {E : Type 0} (r : Result (Unit {0}) E) (m k : Measure) (old new : FieldStats) → m ≡ k →
    OnOk r (AddsValue k old new) → OnOk r (AddsValue m old new)
by_measure r m k old new is added = subst (λ (x : Measure). OnOk r (AddsValue x old new)) (sym is) added

-- ---- where no more can be counted

-- what is counted of values in a way that counts one thing of each at most
abbrev CountsOne : (Measure → List ℕ) → Type 0
CountsOne f = (m : Measure) → length (f m) ≤ 1

-- there are no more of them than values
counted_few : (f : Measure → List ℕ) → CountsOne f → (vs : List Value) → length (counted_of f vs) ≤ length vs
counted_few f one [] = omega arith
counted_few f one (v ∷ vs) =
    omega (arith, length-append (f (measure_of v)) (counted_of f vs), one (measure_of v), counted_few f one vs)

one_natural : CountsOne natural_in
one_natural (Natural n) = omega arith
one_natural (Negative n) = omega arith
one_natural (Float n) = omega arith
one_natural (Length n) = omega arith
one_natural Nothing = omega arith

one_negative : CountsOne negative_in
one_negative (Natural n) = omega arith
one_negative (Negative n) = omega arith
one_negative (Float n) = omega arith
one_negative (Length n) = omega arith
one_negative Nothing = omega arith

one_float : CountsOne float_in
one_float (Natural n) = omega arith
one_float (Negative n) = omega arith
one_float (Float n) = omega arith
one_float (Length n) = omega arith
one_float Nothing = omega arith

one_length : CountsOne length_in
one_length (Natural n) = omega arith
one_length (Negative n) = omega arith
one_length (Float n) = omega arith
one_length (Length n) = omega arith
one_length Nothing = omega arith

-- no more numbers can be counted
abbrev pub IsFullSummary : Summary → Type 0
IsFullSummary s = (xs : List ℕ) → IsSummaryOf xs s → most_counted ≤ length xs

-- no more values can be counted
abbrev pub IsFullField : FieldStats → Type 0
IsFullField f = (vs : List Value) → IsFieldOf vs f → most_counted ≤ length vs

-- a field counts no more where its summary of the numbers from 0 on counts no more
pub naturals_full :
    {E : Type 0} (r : Result (Unit {0}) E) (f : FieldStats) → OnErr r (IsFullSummary f.naturals) →
    OnErr r (IsFullField f)
naturals_full (Ok u) f full = tt
naturals_full (Err e) f full = λ vs h.
    omega (arith, counted_few natural_in one_natural vs, full (counted_of natural_in vs) h.naturals)

-- the same of the numbers below 0
pub negatives_full :
    {E : Type 0} (r : Result (Unit {0}) E) (f : FieldStats) → OnErr r (IsFullSummary f.negatives) →
    OnErr r (IsFullField f)
negatives_full (Ok u) f full = tt
negatives_full (Err e) f full = λ vs h.
    omega (arith, counted_few negative_in one_negative vs, full (counted_of negative_in vs) h.negatives)

-- the same of the floats
pub floats_full :
    {E : Type 0} (r : Result (Unit {0}) E) (f : FieldStats) →
    OnErr r ((xs : List ℕ) → IsFloatSummaryOf xs f.floats → most_counted ≤ length xs) → OnErr r (IsFullField f)
floats_full (Ok u) f full = tt
floats_full (Err e) f full = λ vs h.
    omega (arith, counted_few float_in one_float vs, full (counted_of float_in vs) h.floats)

-- the same of the lengths
pub lengths_full :
    {E : Type 0} (r : Result (Unit {0}) E) (f : FieldStats) → OnErr r (IsFullSummary f.lengths) →
    OnErr r (IsFullField f)
lengths_full (Ok u) f full = tt
lengths_full (Err e) f full = λ vs h.
    omega (arith, counted_few length_in one_length vs, full (counted_of length_in vs) h.lengths)
