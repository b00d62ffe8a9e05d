-- A text that is appended in parts, to a line of any kind, by its laws.
use Rattle.std.proofs.Common.{◌≡◌, ℕ, List, [], ◌++◌, Result, Ok, Err, sym, subst}

-- what an answer says of a text that was to be appended
abbrev pub Growth : Type 0 → Type 0 → Type 1
Growth S E = S → List ℕ → Result (Unit {0}) E → S → Type 0

-- ---- the laws

-- no text is appended by doing nothing
abbrev pub Empty : {S E : Type 0} → Growth S E → Type 0
Empty {S} grows = (s : S) → grows s [] (Ok tt) s

-- a text is appended after another
abbrev pub Joins : {S E : Type 0} → Growth S E → Type 0
Joins {S} {E} grows = (s m t : S) (a b : List ℕ) (r : Result (Unit {0}) E) → grows s a (Ok tt) m → grows m b r t
    → grows s (a ++ b) r t

-- where a text was not appended, no longer one was
abbrev pub Stops : {S E : Type 0} → Growth S E → Type 0
Stops {S} {E} grows = (s t : S) (a b : List ℕ) (e : E) → grows s a (Err e) t → grows s (a ++ b) (Err e) t

-- ---- what is left of a text

-- whatever is answered of what is left of a text, is answered of all of it
pub record IsLeft {S E : Type 0} (grows : Growth S E) (s : S) (whole : List ℕ) (m : S) (left : List ℕ) : Type 0 where
  pub answers : (r : Result (Unit {0}) E) (t : S) → grows m left r t → grows s whole r t

-- all of it is left
pub all_left :
    {S E : Type 0} (grows : Growth S E) (s : S) {whole left : List ℕ} → left ≡ whole → IsLeft grows s whole s left
all_left grows s is = record { answers = λ r t g. subst (λ (x : List ℕ). grows s x r t) is g }

-- one part more is appended
pub part_put :
    {S E : Type 0} {grows : Growth S E} {s m : S} {whole left : List ℕ} (n : S) (part rest : List ℕ) → Joins grows →
    IsLeft grows s whole m left → left ≡ part ++ rest → grows m part (Ok tt) n → IsLeft grows s whole n rest
part_put {grows = grows} {m = m} n part rest joins before is put = record {
  answers = λ r t g.
      before.answers r t (subst (λ (x : List ℕ). grows m x r t) (sym is) (joins m n t part rest r put g));
}

-- a part is not appended
pub part_not_put :
    {S E : Type 0} {grows : Growth S E} {s m : S} {whole left : List ℕ} (t : S) (part rest : List ℕ) (e : E) →
    Stops grows → IsLeft grows s whole m left → left ≡ part ++ rest → grows m part (Err e) t → grows s whole (Err e) t
part_not_put {grows = grows} {m = m} t part rest e stops before is put =
    before.answers (Err e) t (subst (λ (x : List ℕ). grows m x (Err e) t) (sym is) (stops m t part rest e put))

-- nothing is left
pub none_left :
    {S E : Type 0} {grows : Growth S E} {s m : S} {whole left : List ℕ} → Empty grows → IsLeft grows s whole m left →
    left ≡ [] → grows s whole (Ok tt) m
none_left {grows = grows} {m = m} empty before is =
    before.answers (Ok tt) m (subst (λ (x : List ℕ). grows m x (Ok tt) m) (sym is) (empty m))
