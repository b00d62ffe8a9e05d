-- What an event resolves to, by the first reason why it has no entries, and by its entries.
use Rattle.std.proofs.Common.{◌≡◌, ◌↔◌, ℕ, Bool, true, false, List, Option, Some, is_some, refl, sym, ap, ap₂}
use Rattle.std.proofs.Common.{◌∙◌, String, Global, Result, Ok, subst}
use Rattle.std.proofs.lemmas.Bool.{and_parts}
use Rattle.std.proofs.lemmas.Slice.Eq.{bytes_eq-Decides}
use Rattle.std.specs.Bool.{Decides}
use Rattle.std.specs.Cmp.Lexicographic.{pointwise_decides}
use Rattle.trace_values.specs.Values.{Value}
use Rattle.trace_values.specs.parts.types.EqualLaws.{both, same_value-Decides}
use Rattle.dial9_trace_format.specs.ResolvedViews.{entry_views, same_entry_value, same_entry_values}
use Rattle.dial9_trace_format.specs.Resolving.{entries_of_event, unresolved_of, FirstUnresolved, Resolved}
use Rattle.dial9_trace_format.specs.ShownEvents.{ShownEvent}
use Rattle.dial9_trace_format.specs.declared.resolve.ResolvedEvent.{ResolvedEvent}
use Rattle.dial9_trace_format.specs.declared.resolve.ResolvedValue.{ResolvedValue}
use Rattle.dial9_trace_format.specs.declared.resolve.error.DeserError.{DeserError}
use Rattle.dial9_trace_format.specs.declared.resolve.error.DeserError.TheVariants as errors
use Rattle.reader_agreement.proofs.Lookups.{first, later_ones, none_first}

-- the first reason is told, which is not want of memory
pub first_tells :
    (xs : List DeserError) (e : DeserError) (r : Bool) → (e ≡ errors.OutOfMemory → ⊥)
    → (r ≡ true) ↔ (first xs ≡ Some e) → (r ≡ true) ↔ FirstUnresolved xs e
first_tells xs errors.OutOfMemory r not_memory tells = absurd (not_memory refl)
first_tells xs (errors.UnknownString id) r not_memory tells = (
  λ t. later_ones xs (errors.UnknownString id) (tells.0 t),
  λ p. tells.1 (ap (λ (l : List DeserError). first l) p.1),
)
first_tells xs (errors.UnknownStack id) r not_memory tells = (
  λ t. later_ones xs (errors.UnknownStack id) (tells.0 t),
  λ p. tells.1 (ap (λ (l : List DeserError). first l) p.1),
)
first_tells xs errors.SchemaShort r not_memory tells = (
  λ t. later_ones xs errors.SchemaShort (tells.0 t),
  λ p. tells.1 (ap (λ (l : List DeserError). first l) p.1),
)

same_entry_value-Decides : (a b : List ℕ × Value) → Decides (same_entry_value a b) (a ≡ b)
same_entry_value-Decides a b = (
  λ e. let p = and_parts _ _ e in ap₂ (λ (n : List ℕ) (v : Value). (n, v)) ((bytes_eq-Decides a.0 b.0).0 p.0)
      ((same_value-Decides a.1 b.1).0 p.1),
  λ e. both _ _ ((bytes_eq-Decides a.0 b.0).1 (ap (λ (x : List ℕ × Value). x.0) e))
      ((same_value-Decides a.1 b.1).1 (ap (λ (x : List ℕ × Value). x.1) e)),
)

-- nothing is unresolved, and whether the entries are those of the event is told
pub whole_tells :
    (e : ShownEvent) (r : ResolvedEvent) {answer : Result ResolvedEvent DeserError} {found : Option DeserError}
    {entries : List (String Global × ResolvedValue)} {same : Bool} → answer ≡ Ok r → found ≡ first (unresolved_of e)
    → is_some found ≡ false → entries ≡ r.entries.items
    → same ≡ same_entry_values (entry_views entries) (entries_of_event e) → (same ≡ true) ↔ Resolved e answer
whole_tells e r {answer} {found} {entries} {same} is told none parts tells =
    let decides = pointwise_decides same_entry_value-Decides (entry_views r.entries.items) (entries_of_event e) in
    let here : same ≡ same_entry_values (entry_views r.entries.items) (entries_of_event e) = tells
    ∙ ap (λ (es : List (String Global × ResolvedValue)). same_entry_values (entry_views es) (entries_of_event e)) parts
    in
    subst (λ (a : Result ResolvedEvent DeserError). (same ≡ true) ↔ Resolved e a) (sym is) (
      λ t. (none_first (unresolved_of e) found told none, decides.0 (sym here ∙ t)),
      λ p. here ∙ decides.1 p.1,
    )
