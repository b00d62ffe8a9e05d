-- The head of a file, up to its first empty line.
use Rattle.std.proofs.Common.{◌≡◌, ◌≢◌, ℕ, zero, suc, ◌+◌, ◌≤◌, ◌<◌, ◌==◌, Bool, true, false, cond, List, [], ◌∷◌}
use Rattle.std.proofs.Common.{◌++◌, length, get_or, take, drop, Bor, MatchOption, IfSome, Option, Some, None, codes}
use Rattle.std.proofs.Common.{refl, sym, ap, ◌∙◌, arith}
use Rattle.std.specs.List.{AllByRecursion, onto_first}
use Rattle.std.specs.Str.Pattern.{FindsText}
use Rattle.std.proofs.lemmas.Bool.Decides.{Decides-eqb}
use Rattle.std.proofs.lemmas.Str.Pattern.{split_text_parts}
use Rattle.trace_recordings.proofs.ScriptLines.{not_equal}
use Rattle.trace_recordings.specs.Recordings.{HasNoEmptyLine}
use Rattle.trace_recordings.specs.Scripts.{lines_of}

-- no two line feeds stand side by side, also where one stands after the text
abbrev Apart : List ℕ → Type 0
Apart text = (k : ℕ) → k < length text → get_or text k 0 ≡ 10 → get_or text (suc k) 10 ≡ 10 → ⊥

abbrev IsFull : List ℕ → Type 0
IsFull line = line ≢ []

full : (x : ℕ) (xs : List ℕ) → IsFull (x ∷ xs)
full x xs e = cc

onto_full : (x : ℕ) (parts : List (List ℕ)) → AllByRecursion IsFull parts → AllByRecursion IsFull (onto_first x parts)
onto_full x [] all = (full x [], tt)
onto_full x (part ∷ parts) all = (full x part, all.1)

-- a line feed comes first, or not
not_first :
    (b : Bool) (x : ℕ) (parts : List (List ℕ)) → b ≡ false → AllByRecursion IsFull (onto_first x parts) →
    AllByRecursion IsFull (cond b ([] ∷ parts) (onto_first x parts))
not_first true x parts e all = absurd (cc)
not_first false x parts e all = all

second :
    (b : Bool) (x y : ℕ) (parts : List (List ℕ)) → (b ≡ true → AllByRecursion IsFull parts) →
    (b ≡ false → AllByRecursion IsFull (cond b ([] ∷ parts) (onto_first y parts))) →
    AllByRecursion IsFull (onto_first x (cond b ([] ∷ parts) (onto_first y parts)))
second true x y parts feed other = (full x [], feed refl)
second false x y parts feed other = onto_full x (onto_first y parts) (other refl)

is_feed : (y : ℕ) → (y == 10) ≡ true → y ≡ 10
is_feed y e = (Decides-eqb y 10).0 e

no_feed : (y : ℕ) → (y == 10) ≡ false → y ≡ 10 → ⊥
no_feed y e same = absurd (let wrong : true ≡ false = sym ((Decides-eqb y 10).1 same) ∙ e in cc)

full_lines : (text : List ℕ) → Apart text → (get_or text 0 10 ≡ 10 → ⊥) → HasNoEmptyLine text
full_lines [] apart first = absurd (first refl)
full_lines (x ∷ []) apart first = not_first (x == 10) x ([] ∷ []) (not_equal x 10 first) (full x [], tt)
full_lines (x ∷ (y ∷ ys)) apart first =
    let later : (k : ℕ) → k < length (y ∷ ys) → get_or (y ∷ ys) k 0 ≡ 10 → get_or (y ∷ ys) (suc k) 10 ≡ 10 → ⊥ =
    λ k inside here next. apart (suc k) (omega (arith, inside)) here next in
    not_first (x == 10) x (lines_of (y ∷ ys)) (not_equal x 10 first) (second (y == 10) x y (lines_of ys)
    (λ e. full_lines ys (λ k inside here next. later (suc k) (omega (arith, inside)) here next)
    (λ next. later 0 (omega arith) (is_feed y e) next))
    (λ e. full_lines (y ∷ ys) later (no_feed y e)))

-- two line feeds in the head are an empty line
two_feeds :
    (head rest : List ℕ) (k : ℕ) → k < length head → get_or head k 0 ≡ 10 → get_or head (suc k) 10 ≡ 10 →
    (after : List ℕ) × (drop k (head ++ (codes "\n\n" ++ rest)) ≡ codes "\n\n" ++ after)
two_feeds [] rest k inside here next = absurd (omega (arith, inside))
two_feeds (x ∷ []) rest zero inside here next = (10 ∷ rest, ap (λ y. y ∷ (10 ∷ (10 ∷ rest))) here)
two_feeds (x ∷ (y ∷ ys)) rest zero inside here next = (ys ++ (codes "\n\n" ++ rest), rw (here, next))
two_feeds (x ∷ xs) rest (suc k) inside here next = two_feeds xs rest k (omega (arith, inside)) here next

-- the text before the first empty line has none
pub first_empty :
    (file : List ℕ) (r : Option (Bor (List ℕ) × Bor (List ℕ))) →
    MatchOption r (FindsText (codes "\n\n") file None)
    (λ x. (i : ℕ) × (j : ℕ) × FindsText (codes "\n\n") file (Some (i, j)) × (x.0.now ≡ take i file)
    × (x.1.now ≡ drop j file) × (i ≤ j) × (length x.0.now ≡ i) × (length x.1.now + j ≡ length file)) →
    IfSome r (λ x. (get_or x.0.now 0 10 ≡ 10 → ⊥) → HasNoEmptyLine x.0.now)
first_empty file None h = tt
first_empty file (Some x) h = λ first.
    let parts = split_text_parts (codes "\n\n") file (Some x) h in
    full_lines x.0.now (λ k inside here next.
    let two = two_feeds x.0.now x.1.now k inside here next in
    h.2.0 k (omega (arith, inside, h.6)) two.0 (ap (drop k) parts ∙ two.1)) first
