-- A list whose elements are parted by commas, as it is appended.
use Rattle.std.proofs.Common.{◌≡◌, ℕ, ◌+◌, ◌<◌, ◌≤◌, List, [], ◌∷◌, ◌++◌, codes, length, take, drop, get_or, refl, sym}
use Rattle.std.proofs.Common.{ap, ◌∙◌, append_assoc, append-nil, add-one, arith, rules, suc}
use Rattle.std.specs.List.{flat_map, join_by}
use Rattle.std.proofs.lemmas.List.{flat_map_more, take_more, length-take-le, get_or_default, drop_more, drop_all}
use Rattle.trace_lines.specs.parts.Lines.{comma_before}

-- a comma stands before each but the first
comma_later : {A : Type 0} (xs : List A) → comma_before (suc (length xs)) ≡ codes ","
comma_later xs = search rules

-- one element more
joined_push :
    {A : Type 0} (shown : A → List ℕ) (xs : List A) (x : A) →
    join_by shown (codes ",") (xs ++ x ∷ []) ≡ join_by shown (codes ",") xs ++ (comma_before (length xs) ++ shown x)
joined_push shown [] x = append-nil (shown x)
joined_push shown (first ∷ xs) x =
    rw (comma_later xs) (sym (flat_map_more (λ y. codes "," ++ shown y) (shown first) xs x))

-- one element more is joined to those before an index
pub joined_more :
    {A : Type 0} {now comma new : List ℕ} (shown : A → List ℕ) (old : List ℕ) (xs : List A) (i : ℕ) (x : A) →
    i < length xs → x ≡ get_or xs i x → now ≡ old ++ join_by shown (codes ",") (take i xs) →
    comma ≡ now ++ comma_before i →
    new ≡ comma ++ shown x → new ≡ old ++ join_by shown (codes ",") (take (i + 1) xs)
joined_more {A} shown old xs i x lt is before put_comma put =
    let so_far = join_by shown (codes ",") (take i xs) in
    let here : take (i + 1) xs ≡ take i xs ++ x ∷ [] =
    take_more xs i x lt ∙ ap (λ (y : A). take i xs ++ y ∷ []) (sym is) in
    let one : join_by shown (codes ",") (take (i + 1) xs) ≡ so_far ++ (comma_before i ++ shown x) =
    ap (join_by shown (codes ",")) here ∙ joined_push shown (take i xs) x
    ∙ ap (λ (k : ℕ). so_far ++ (comma_before k ++ shown x)) (length-take-le i xs (omega arith)) in
    put ∙ ap (λ (t : List ℕ). t ++ shown x) (put_comma ∙ ap (λ (t : List ℕ). t ++ comma_before i) before)
    ∙ append_assoc (old ++ so_far) (comma_before i) (shown x) ∙ append_assoc old so_far (comma_before i ++ shown x)
    ∙ ap (λ (t : List ℕ). old ++ t) (sym one)

-- the same of an element that is read where it stands
pub joined_read :
    {A : Type 0} {now comma new : List ℕ} (shown : A → List ℕ) (old : List ℕ) (xs : List A) (i : ℕ) (d : A) →
    i < length xs → now ≡ old ++ join_by shown (codes ",") (take i xs) → comma ≡ now ++ comma_before i →
    new ≡ comma ++ shown (get_or xs i d) → new ≡ old ++ join_by shown (codes ",") (take (i + 1) xs)
joined_read shown old xs i d lt before put_comma put =
    joined_more shown old xs i (get_or xs i d) lt (get_or_default xs i d (get_or xs i d) lt) before put_comma put

-- ---- the elements that are left

-- the elements from one of an index on, each after its comma
abbrev pub joined_left : {A : Type 0} → (A → List ℕ) → ℕ → List A → List ℕ
joined_left shown i [] = []
joined_left shown i (x ∷ xs) = (comma_before i ++ shown x) ++ flat_map (λ y. codes "," ++ shown y) xs

-- from the first on these are all
pub joined_all : {A : Type 0} (shown : A → List ℕ) (xs : List A) → joined_left shown 0 xs ≡ join_by shown (codes ",") xs
joined_all shown [] = refl
joined_all shown (x ∷ xs) = refl

comma_after : (i : ℕ) → comma_before (suc i) ≡ codes ","
comma_after i = search rules

-- after the first each has a comma
pub left_later :
    {A : Type 0} (shown : A → List ℕ) (i : ℕ) (xs : List A) →
    joined_left shown (suc i) xs ≡ flat_map (λ y. codes "," ++ shown y) xs
left_later shown i [] = refl
left_later shown i (x ∷ xs) =
    ap (λ (c : List ℕ). (c ++ shown x) ++ flat_map (λ y. codes "," ++ shown y) xs) (comma_after i)

-- the first of those that are left
pub joined_first :
    {A : Type 0} (shown : A → List ℕ) (xs : List A) (i : ℕ) (x : A) → i < length xs → x ≡ get_or xs i x →
    joined_left shown i (drop i xs) ≡ (comma_before i ++ shown x) ++ joined_left shown (i + 1) (drop (i + 1) xs)
joined_first {A} shown xs i x lt is =
    let first : drop i xs ≡ x ∷ drop (i + 1) xs =
    drop_more xs i x lt ∙ ap (λ (z : A). z ∷ drop (i + 1) xs) (sym is) in
    ap (λ (ys : List A). joined_left shown i ys) first
    ∙ ap (λ (t : List ℕ). (comma_before i ++ shown x) ++ t)
    (sym (ap (λ (k : ℕ). joined_left shown k (drop (i + 1) xs)) (add-one i) ∙ left_later shown i (drop (i + 1) xs)))

-- none is left
pub joined_none :
    {A : Type 0} (shown : A → List ℕ) (xs : List A) (i : ℕ) → length xs ≤ i → joined_left shown i (drop i xs) ≡ []
joined_none {A} shown xs i le = ap (λ (ys : List A). joined_left shown i ys) (drop_all i xs le)

-- the same in parts
pub joined_parts :
    {A : Type 0} (shown : A → List ℕ) (xs : List A) (i : ℕ) (x : A) → i < length xs → x ≡ get_or xs i x →
    joined_left shown i (drop i xs) ≡ comma_before i ++ (shown x ++ joined_left shown (i + 1) (drop (i + 1) xs))
joined_parts shown xs i x lt is =
    joined_first shown xs i x lt is
    ∙ append_assoc (comma_before i) (shown x) (joined_left shown (i + 1) (drop (i + 1) xs))

-- of a text of three parts, too
pub in_parts : (comma a b c rest : List ℕ) → comma ++ ((a ++ (b ++ c)) ++ rest) ≡ comma ++ (a ++ (b ++ (c ++ rest)))
in_parts comma a b c rest = simp append_assoc
