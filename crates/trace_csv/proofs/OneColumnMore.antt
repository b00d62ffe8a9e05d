-- The names of columns, one after another.
use Rattle.std.proofs.Common.{◌≡◌, ℕ, zero, suc, ◌+◌, List, [], ◌∷◌, ◌++◌, sym, ap, ◌∙◌, refl, Result, Ok, Err}
use Rattle.std.proofs.Common.{OnOk, append-nil, append_assoc, arith, map}
use Rattle.std.proofs.lemmas.Grind.{flat_map-append}
use Rattle.std.proofs.lemmas.List.FromFn.{map-range_with_len_more}
use Rattle.std.specs.List.{flat_map, range_with_len}

-- one name more
pub one_name_more :
    (name : ℕ → List ℕ) (first : List ℕ) (n : ℕ) (old new : List (List ℕ)) {part text : List ℕ} →
    old ≡ first ∷ map name (range_with_len 0 n) → part ≡ [] → text ≡ name n → new ≡ old ++ (part ++ text) ∷ [] →
    new ≡ first ∷ map name (range_with_len 0 (n + 1))
one_name_more name first n old new {part} {text} so whole is put =
    put ∙ ap (λ (l : List (List ℕ)). l ++ (part ++ text) ∷ []) so
    ∙ ap (λ (t : List ℕ). first ∷ (map name (range_with_len 0 n) ++ t ∷ [])) (ap (λ (p : List ℕ). p ++ text) whole ∙ is)
    ∙ ap (λ (l : List (List ℕ)). first ∷ l) (sym (map-range_with_len_more name 0 n n (omega arith)))

range_after : (n a : ℕ) → range_with_len a (suc n) ≡ range_with_len a n ++ (a + n) ∷ []
range_after zero a = let same : a ≡ a + 0 = omega arith in ap (λ (x : ℕ). x ∷ []) same
range_after (suc n) a =
    let same : a + 1 + n ≡ a + suc n = omega arith in
    ap (λ (l : List ℕ). a ∷ l) (range_after n (a + 1) ∙ ap (λ (x : ℕ). range_with_len (a + 1) n ++ x ∷ []) same)

-- one column more
pub one_column_more :
    (column : ℕ → List ℕ) (start : List ℕ) (n : ℕ) (old new : List ℕ) →
    old ≡ start ++ flat_map column (range_with_len 0 n) → new ≡ old ++ column n →
    new ≡ start ++ flat_map column (range_with_len 0 (n + 1))
one_column_more column start n old new so put =
    let on : n + 1 ≡ suc n = omega arith in
    let same : 0 + n ≡ n = omega arith in
    let front = range_with_len 0 n in
    let more : flat_map column (range_with_len 0 (n + 1)) ≡ flat_map column front ++ column n =
    ap (λ (k : ℕ). flat_map column (range_with_len 0 k)) on ∙ ap (flat_map column) (range_after n 0)
    ∙ ap (λ (k : ℕ). flat_map column (front ++ k ∷ [])) same ∙ flat_map-append column front (n ∷ [])
    ∙ ap (λ (t : List ℕ). flat_map column front ++ t) (append-nil (column n)) in
    put ∙ ap (λ (l : List ℕ). l ++ column n) so ∙ append_assoc start (flat_map column front) (column n)
    ∙ ap (λ (l : List ℕ). start ++ l) (sym more)

-- the text of a table, once its end was appended
pub table_ended :
    {E : Type 0} (r : Result (Unit {0}) E) (start head : List ℕ) {middle held : List ℕ} (columns end ended : List ℕ) →
    middle ≡ start ++ head → held ≡ middle ++ columns → OnOk r (ended ≡ held ++ end) →
    OnOk r (ended ≡ start ++ ((head ++ columns) ++ end))
table_ended (Err e) start head columns end ended begun all put = put
table_ended (Ok u) start head columns end ended begun all put =
    put ∙ ap (λ (l : List ℕ). l ++ end) (all ∙ ap (λ (l : List ℕ). l ++ columns) begun
    ∙ append_assoc start head columns) ∙ append_assoc start (head ++ columns) end
