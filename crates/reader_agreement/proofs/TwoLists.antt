-- Loops that compare two lists of different things, element after element.
use Rattle.std.proofs.Common.{◌≡◌, ℕ, ◌+◌, ◌<◌, ◌≤◌, Bool, true, false, ◌&&◌, List, [], ◌∷◌, length, get_or, drop, sym}
use Rattle.std.proofs.Common.{ap, ap₂, ◌∙◌, arith}
use Rattle.std.proofs.lemmas.List.{drop_more, at_drop_all}

-- two lists of one length, whose elements of an index were compared
pub record BothAt {A B : Type 0} (one : A → B → Bool) (xs : List A) (ys : List B) (i : ℕ) (x : A) (y : B)
    (same : Bool) : Type 0 where
  pub inside : i < length xs
  pub alike : length xs ≡ length ys
  pub first : x ≡ get_or xs i x
  pub second : y ≡ get_or ys i y
  pub tells : same ≡ one x y

-- a test of two lists, which tests their first elements and then the others
abbrev pub WalksBoth : {A B : Type 0} → (List A → List B → Bool) → (A → B → Bool) → Type 0
WalksBoth {A} {B} all one = (x : A) (y : B) (xs : List A) (ys : List B) → all (x ∷ xs) (y ∷ ys) ≡ (one x y && all xs ys)

walked :
    {A B : Type 0} (all : List A → List B → Bool) (one : A → B → Bool) → WalksBoth all one
    → (xs : List A) (ys : List B) (i : ℕ) {x : A} {y : B} {same whole : Bool} →
    BothAt one xs ys i x y same → all (drop i xs) (drop i ys) ≡ whole →
    (same && all (drop (i + 1) xs) (drop (i + 1) ys)) ≡ whole
walked {A} {B} all one step xs ys i {x} {y} at before =
    let left : drop i xs ≡ x ∷ drop (i + 1) xs =
    drop_more xs i x at.inside ∙ ap (λ (z : A). z ∷ drop (i + 1) xs) (sym at.first) in
    let right : drop i ys ≡ y ∷ drop (i + 1) ys =
    drop_more ys i y (omega (arith, at.inside, at.alike)) ∙ ap (λ (z : B). z ∷ drop (i + 1) ys) (sym at.second) in
    ap (λ (b : Bool). b && all (drop (i + 1) xs) (drop (i + 1) ys)) at.tells ∙ sym (ap₂ all left right ∙ step x y _ _)
    ∙ before

-- after an element that is the same, what is left tells of the whole
pub same_so_far :
    {A B : Type 0} (all : List A → List B → Bool) (one : A → B → Bool) → WalksBoth all one
    → (xs : List A) (ys : List B) (i : ℕ) {x : A} {y : B} {same whole : Bool} →
    BothAt one xs ys i x y same → all (drop i xs) (drop i ys) ≡ whole →
    same ≡ true → all (drop (i + 1) xs) (drop (i + 1) ys) ≡ whole
same_so_far all one step xs ys i {x} {y} {same} {whole} at before agrees =
    ap (λ (b : Bool). b && all (drop (i + 1) xs) (drop (i + 1) ys)) (sym agrees)
    ∙ walked all one step xs ys i at before

-- an element that is not the same tells of the whole
pub one_differs :
    {A B : Type 0} (all : List A → List B → Bool) (one : A → B → Bool) → WalksBoth all one
    → (xs : List A) (ys : List B) (i : ℕ) {x : A} {y : B} {same whole : Bool} →
    BothAt one xs ys i x y same → all (drop i xs) (drop i ys) ≡ whole →
    same ≡ false → false ≡ whole
one_differs all one step xs ys i {x} {y} {same} {whole} at before differs =
    ap (λ (b : Bool). b && all (drop (i + 1) xs) (drop (i + 1) ys)) (sym differs)
    ∙ walked all one step xs ys i at before

-- at the end nothing is left, and all was the same
pub all_same :
    {A B : Type 0} (all : List A → List B → Bool) → all [] [] ≡ true → (xs : List A) (ys : List B) (i : ℕ)
    (whole : Bool) →
    length xs ≤ i → length xs ≡ length ys → all (drop i xs) (drop i ys) ≡ whole → true ≡ whole
all_same {A} {B} all none xs ys i whole le alike before =
    let left = at_drop_all (λ (zs : List A). all zs (drop i ys)) xs i le in
    let right = at_drop_all (λ (zs : List B). all [] zs) ys i (omega arith) in
    sym (left ∙ right ∙ none) ∙ before
