-- One more counter.
use Rattle.std.proofs.Common.{◌≡◌, ℕ, ℤ, suc, ◌+◌, List, [], ◌++◌, length, Option, Some, None, option_map}
use Rattle.std.proofs.Common.{Result, Ok, Err, OnOk}
use Rattle.std.proofs.Common.{refl, sym, ap, ◌∙◌, subst, arith, append_assoc, append-nil}
use Rattle.std.specs.Fmt.{signed_decimal}
use Rattle.std.specs.List.{flat_map}
use Rattle.std.proofs.lemmas.Grind.{flat_map-append}
use Rattle.trace_values.specs.Values.{Value}
use Rattle.trace_wire.specs.Runs.{Pools}
use Rattle.dial9_trace_format.specs.ShownEvents.{ShownEvent}
use Rattle.trace_json.specs.EventJson.{IsValueJson}
use Rattle.trace_json.specs.Lines.{IsTextOf}
use Rattle.trace_chrome.specs.Counters.{Sum, Reading, shows, adds, nothing, reading_of, total_of, counter_at, sums_by}
use Rattle.trace_chrome.specs.Counters.{sums_of_first, sums_of, IsShownBy, IsShownAt, count_entries}
use Rattle.trace_chrome.specs.Entries.{Counter, counts, entry_text, entries_text}
use Rattle.trace_chrome.specs.parts.Counts.{sums_at, CountsAt, CountsFirst, CountsAll}

module _
    (e : ShownEvent) (track n : ℕ) (sums : List Sum) {now : List Sum}
    (same : now ≡ sums_of_first e track sums n)
  where
    next : n + 1 ≡ suc n
    next = omega arith

    -- the sums after it
    pub sums_added : {new : List Sum} → new ≡ sums_at e track n now → new ≡ sums_of_first e track sums (n + 1)
    sums_added is =
        is ∙ ap (sums_by (reading_of e n) (counter_at e track n)) same
        ∙ ap (sums_of_first e track sums) (sym next)

    -- its entry after those before it
    pub count_added :
        {at from : ℕ} (old : List ℕ) {mid : List ℕ} (new : List ℕ) → CountsFirst e track at from sums n old mid →
        CountsAt e track at from n now mid new → CountsFirst e track at from sums (n + 1) old new
    count_added {at} {from} old {mid} new first one =
        let f = entry_text from in
        let own = count_entries at (counter_at e track n) one.shown in
        subst (λ (m : ℕ). CountsFirst e track at from sums m old new) (sym next)
        (record {
          entries = first.entries ++ own;
          are_so = (
            first.entries,
            one.shown,
            first.are_so,
            subst (λ (l : List Sum). IsShownAt e track n l one.shown) same one.is_shown,
            refl,
          );
          text = one.text ∙ ap (λ (l : List ℕ). l ++ entries_text from own) first.text
              ∙ append_assoc old (flat_map f first.entries) (flat_map f own)
              ∙ ap (λ (l : List ℕ). old ++ l) (sym (flat_map-append f first.entries own));
        })

-- a counter is that of a field, and shows a text
pub record Shown (e : ShownEvent) (track n : ℕ) (sums : List Sum) (c : Counter) (text : List ℕ) : Type 0 where
  pub same : c ≡ counter_at e track n
  pub shown : IsShownAt e track n sums (Some text)

-- what a counter shows that has something to show
pub something_shown :
    {A : Type 0} (e : ShownEvent) (track n : ℕ) (sums : List Sum) {c : Counter} (f : A → List ℕ) {o : Option A} {v : A}
    {text : List ℕ} → (c ≡ counter_at e track n) × (o ≡ Some v) × (text ≡ f v) →
    IsShownBy e.pools (reading_of e n) c sums (option_map f o) → Shown e track n sums c text
something_shown e track n sums {c} f {o} {v} {text} (same, is, told) h =
    let shown_is : option_map f o ≡ Some text = ap (option_map f) is ∙ ap Some (sym told) in
    let one : IsShownBy e.pools (reading_of e n) c sums (Some text) =
    subst (λ (x : Option (List ℕ)). IsShownBy e.pools (reading_of e n) c sums x) shown_is h in
    record {
      same = same;
      shown = subst (λ (x : Counter). IsShownBy e.pools (reading_of e n) x sums (Some text)) same one;
    }

-- it has one entry
pub one_counted :
    {E : Type 0} (r : Result (Unit {0}) E) {e : ShownEvent} {track n : ℕ} {sums : List Sum} {c : Counter}
    {text : List ℕ} (at from : ℕ) (old new : List ℕ) → Shown e track n sums c text →
    OnOk r (new ≡ old ++ entry_text from (counts at c text)) → OnOk r (CountsAt e track at from n sums old new)
one_counted (Ok u) {e} {track} {n} {c = c} {text = text} at from old new s appended = record {
  shown = Some text;
  is_shown = s.shown;
  text = appended ∙ ap (λ (x : Counter). old ++ entry_text from (counts at x text)) s.same
      ∙ ap (λ (l : List ℕ). old ++ l) (sym (append-nil (entry_text from (counts at (counter_at e track n) text))));
}
one_counted (Err x) at from old new s appended = tt

-- one that shows nothing has none
pub none_counted :
    {A : Type 0} (e : ShownEvent) (track : ℕ) {at from : ℕ} (n : ℕ) (sums : List Sum) (old : List ℕ) {c : Counter}
    (f : A → List ℕ) {o : Option A} → (c ≡ counter_at e track n) × (o ≡ None) →
    IsShownBy e.pools (reading_of e n) c sums (option_map f o) → CountsAt e track at from n sums old old
none_counted e track n sums old {c} f {o} (same, is) h = record {
  shown = None;
  is_shown = subst (λ (x : Counter). IsShownBy e.pools (reading_of e n) x sums None) same
      (subst (λ (x : Option (List ℕ)). IsShownBy e.pools (reading_of e n) c sums x) (ap (option_map f) is) h);
  text = sym (append-nil old);
}

-- what a value is shown as
pub value_shown :
    (p : Pools) (c : Counter) (sums : List Sum) {v : Value} {w : Reading} (text : List ℕ) → shows v ≡ w →
    IsTextOf (IsValueJson p v) text → IsShownBy p w c sums (Some text)
value_shown p c sums text same h =
    subst (λ (x : Reading). IsShownBy p x c sums (Some text)) same (text, h, refl)

-- what a step shows: the total with it
pub step_shown :
    (p : Pools) (c : Counter) (sums : List Sum) {z total : ℤ} {w : Reading} (text : List ℕ) → adds z ≡ w →
    total ≡ total_of c z sums → text ≡ signed_decimal total → IsShownBy p w c sums (Some text)
step_shown p c sums text same is told =
    subst (λ (x : Reading). IsShownBy p x c sums (Some text)) same (ap Some (told ∙ ap signed_decimal is))

pub nothing_shown :
    (p : Pools) (c : Counter) (sums : List Sum) {w : Reading} → nothing ≡ w → IsShownBy p w c sums None
nothing_shown p c sums same = subst (λ (x : Reading). IsShownBy p x c sums None) same refl

-- before the first
pub none_before :
    (e : ShownEvent) (track at from : ℕ) (sums : List Sum) (old : List ℕ) → CountsFirst e track at from sums 0 old old
none_before e track at from sums old = record { entries = []; are_so = refl; text = sym (append-nil old) }

-- after the last, of as many values as there are
pub all_summed :
    (e : ShownEvent) (track : ℕ) {n : ℕ} (sums : List Sum) {new : List Sum} → n ≡ length e.values →
    new ≡ sums_of_first e track sums n → new ≡ sums_of e track sums
all_summed e track sums {new} all h = subst (λ (m : ℕ). new ≡ sums_of_first e track sums m) all h

-- its entries, of as many values as there are
pub all_counted :
    (e : ShownEvent) (track : ℕ) {at from n : ℕ} (sums : List Sum) {old new : List ℕ} → n ≡ length e.values →
    CountsFirst e track at from sums n old new → CountsAll e track at from sums old new
all_counted e track {at} {from} sums {old} {new} all h =
    subst (λ (m : ℕ). CountsFirst e track at from sums m old new) all h
