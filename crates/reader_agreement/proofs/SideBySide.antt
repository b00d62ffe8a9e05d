-- Two lists that are gone over side by side, up to the first that differs.
use Rattle.std.proofs.Common.{◌≡◌, ◌↔◌, ℕ, Bool, true, false, List, [], ◌∷◌, refl, sym, ap, ◌∙◌, Option, Some, None}
use Rattle.std.proofs.Common.{is_some, not}
use Rattle.std.proofs.lemmas.Bool.{false≢true}
use Rattle.std.specs.FinMap as map
use Rattle.std.specs.Map.Iter.{TakesFirst}
use Rattle.std.specs.Ordering.{nat_cmp}

-- what is left of both is the same exactly where this holds
pub record LeftAlike {A : Type 0} (P : Type 0) (left right : List A) : Type 0 where
  pub forth : left ≡ right → P
  pub back : P → left ≡ right

-- before the first all of both is left
pub begins :
    {A : Type 0} {left right : List A} (xs ys : List A) → left ≡ xs → right ≡ ys → LeftAlike (xs ≡ ys) left right
begins xs ys first second = record {
  forth = λ e. sym first ∙ e ∙ second;
  back = λ p. first ∙ p ∙ sym second;
}

-- the same of the entries of two maps
pub map_begins :
    {X : Type 0} {left right : List (ℕ × X)} (m n : map.FinMap nat_cmp X) → left ≡ map.entries m
    → right ≡ map.entries n → LeftAlike (m ≡ n) left right
map_begins {X} m n first second = record {
  forth = λ e. map.same_entries_map m n (sym first ∙ e ∙ second);
  back = λ p. first ∙ ap (λ (k : map.FinMap nat_cmp X). map.entries k) p ∙ sym second;
}

abbrev pub tail_of : {A : Type 0} → List A → List A
tail_of [] = []
tail_of (x ∷ xs) = xs

-- one more is the same in both
pub one_more :
    {A P : Type 0} {left right : List A} (x : A) (xs ys : List A) → LeftAlike P left right → left ≡ x ∷ xs
    → right ≡ x ∷ ys → LeftAlike P xs ys
one_more {A} x xs ys before one other = record {
  forth = λ e. before.forth (one ∙ ap (λ (zs : List A). x ∷ zs) e ∙ sym other);
  back = λ p. ap (λ (zs : List A). tail_of zs) (sym one ∙ before.back p ∙ other);
}

-- the next of the second list is not that of the first
pub one_other :
    {A P : Type 0} {left right : List A} (same : Bool) (x : A) (xs : List A) → LeftAlike P left right → left ≡ x ∷ xs
    → ((rest : List A) → right ≡ x ∷ rest → same ≡ true) → same ≡ false → (false ≡ true) ↔ P
one_other same x xs before one must differs = (
  λ e. absurd (false≢true e),
  λ p. absurd (false≢true (sym differs ∙ must xs (sym (before.back p) ∙ one))),
)

-- of two lists that are the same the first elements are
pub same_heads : {A : Type 0} (x y : A) (xs ys : List A) → x ∷ xs ≡ y ∷ ys → x ≡ y
same_heads x y xs ys e = cc

no_end : {A : Type 0} (x : A) (xs : List A) → [] ≡ x ∷ xs → ⊥
no_end x xs e = cc

-- the first list has ended: the second is the same exactly where it has ended too
pub at_end :
    {A O P : Type 0} {left right : List A} (shows : O → A) (r : Option O) (rest : List A) (none : Bool)
    → LeftAlike P left right → left ≡ [] → TakesFirst shows right r rest → is_some r ≡ not none
    → (none ≡ true) ↔ P
at_end shows None rest true before ended steps is = (λ e. before.forth (ended ∙ sym steps.0), λ p. refl)
at_end shows None rest false before ended steps is = absurd (false≢true is)
at_end shows (Some x) rest true before ended steps is = absurd (false≢true (sym is))
at_end shows (Some x) rest false before ended steps is = (
  λ e. absurd (false≢true e),
  λ p. absurd (no_end (shows x) rest (sym ended ∙ before.back p ∙ steps)),
)
