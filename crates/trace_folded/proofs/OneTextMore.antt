-- What one more text does to the numbers.
use Rattle.std.proofs.Common.{◌≡◌, ◌≢◌, ℕ, Bool, true, false, cond, List, Some, String, BTreeMap, refl, ap, sym, ◌∙◌}
use Rattle.std.proofs.Common.{Result, Ok, Err, OnOk, option_map}
use Rattle.std.proofs.Common.{unwrap_or}
use Rattle.std.specs.BTreeMap.{get_by_text}
use Rattle.std.specs.Map.{update}
use Rattle.std.specs.Str.{bytes_eq}
use Rattle.trace_folded.specs.Tallies.{count_of, PutsNoOther}
use Rattle.std.proofs.lemmas.Slice.Eq.{bytes_eq-Decides}
use Rattle.dial9_trace_format.specs.ShownEvents.{ShownEvent}
use Rattle.trace_folded.specs.Stacks.{first_stack, folded_text}
use Rattle.trace_folded.specs.Events.{stack_text, PutsOnlyStackOf}
use Rattle.trace_folded.specs.declared.tally.FoldedStacks.{FoldedStacks}
use Rattle.trace_folded.specs.parts.Tallies.{SetsCount}

module _ {Y : Type 0} (old new : BTreeMap (String Y) ℕ) (text : List ℕ) where
  -- what is put under a text is its number
  pub sets_count :
      (count : ℕ) →
      ((v : List ℕ) → get_by_text new v ≡ update bytes_eq (get_by_text old) text (Some count) v) →
      SetsCount old new text count
  sets_count count sets other = ap (λ o. unwrap_or o 0) (sets other) ∙ by_test (bytes_eq text other)
    where
      by_test : (b : Bool) →
          unwrap_or (cond b (Some count) (get_by_text old other)) 0 ≡ cond b count (count_of old other)
      by_test true = refl
      by_test false = refl

  -- and nothing else was
  pub puts_no_other :
      (count : ℕ) →
      ((v : List ℕ) → get_by_text new v ≡ update bytes_eq (get_by_text old) text (Some count) v) →
      PutsNoOther old new text
  puts_no_other count sets other apart =
      sets other ∙ ap (λ (b : Bool). cond b (Some count) (get_by_text old other)) apart

-- nothing but the text of the event's stack
pub only_stack_of :
    (e : ShownEvent) (xs : List ℕ) (old new : FoldedStacks) {E : Type 0} (r : Result (Unit {0}) E) →
    Some xs ≡ first_stack e.pools.stacks e.values →
    OnOk r (PutsNoOther old.counts new.counts (folded_text xs)) → OnOk r (PutsOnlyStackOf e old new)
only_stack_of e xs old new (Err x) is puts = puts
only_stack_of e xs old new (Ok u) is puts =
    λ other apart. puts other (by_test other apart (bytes_eq (folded_text xs) other) refl)
  where
    by_test : (other : List ℕ) → stack_text e ≢ Some other → (b : Bool) →
        bytes_eq (folded_text xs) other ≡ b → b ≡ false
    by_test other apart true same =
        absurd (apart (ap (option_map folded_text) (sym is) ∙ ap (λ (t : List ℕ). Some t)
        ((bytes_eq-Decides (folded_text xs) other).0 same)))
    by_test other apart false same = refl
