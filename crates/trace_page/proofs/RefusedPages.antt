-- What was sent of a page where a part of it was refused.
use Rattle.std.proofs.Common.{◌≡◌, ℕ, ◌+◌, ◌<◌, ◌≤◌, List, [], ◌∷◌, ◌++◌, length, take, drop, Result, Ok, Err, IfErr}
use Rattle.std.proofs.Common.{IsErrAnd, sym, ap, subst, ◌∙◌, arith, ◌⊎◌, inl, inr}
use Rattle.std.proofs.lemmas.List.{length-append, length-drop, take-append-le, take-append-drop}
use Rattle.std.proofs.lemmas.Bool.{cases_eq, ne_eqb}
use Rattle.std.proofs.Math.Seq.{take-append-add}
use Rattle.std.specs.declared.io.ErrorKind.{ErrorKind}
use Rattle.trace_values.specs.Sending.{Account, TookOnly}
use Rattle.trace_values.proofs.TwoStepsOfWriter.{TookOnly-join, TookOnly-none}
use Rattle.trace_page.specs.Escaping.{less_than, escaped, escaped_byte}
use Rattle.trace_page.specs.Sending.{PageFails}
use Rattle.trace_page.specs.declared.sending.PageError.{PageError}
use Rattle.trace_page.specs.declared.sending.PageError.TheVariants.{OutOfMemory, Writer}
use Rattle.trace_page.proofs.EscapedStrings.{escaped-append}

-- ---- a front that is not all

-- a front of the bytes, and not all, was sent with these faults
abbrev SentInPart : Account → Account → List ℕ → List ErrorKind → Type 0
SentInPart a b bytes faults = (accepted : ℕ) × (accepted < length bytes) × TookOnly a b (take accepted bytes) faults

part_before :
    {a b : Account} {ks : List ErrorKind} (xs ys : List ℕ) → SentInPart a b xs ks → SentInPart a b (xs ++ ys) ks
part_before {a} {b} {ks} xs ys p =
    let fits : p.0 ≤ length xs = omega (arith, p.1) in (
      p.0,
      omega (arith, length-append xs ys, p.1),
      subst (λ (l : List ℕ). TookOnly a b l ks) (sym (take-append-le p.0 xs ys fits)) p.2,
    )

part_after :
    {a b c : Account} {ks : List ErrorKind} (xs ys : List ℕ) → TookOnly a b xs [] → SentInPart b c ys ks →
    SentInPart a c (xs ++ ys) ks
part_after {a} {b} {c} {ks} xs ys took p = (
  length xs + p.0,
  omega (arith, length-append xs ys, p.1),
  subst (λ (l : List ℕ). TookOnly a c l ks) (sym (take-append-add xs ys p.0))
      (TookOnly-join a b c xs (take p.0 ys) [] ks took p.2),
)

-- ---- a refused part

-- more bytes were to come after those that were refused
fails_before : (a b : Account) (e : PageError) (xs ys : List ℕ) → PageFails a b xs e → PageFails a b (xs ++ ys) e
fails_before a b OutOfMemory xs ys p = part_before xs ys p
fails_before a b (Writer kind) xs ys p = part_before xs ys p

-- bytes were sent, and those after them refused
fails_after :
    {a b : Account} (c : Account) (e : PageError) (xs ys : List ℕ) → TookOnly a b xs [] → PageFails b c ys e →
    PageFails a c (xs ++ ys) e
fails_after c OutOfMemory xs ys took p = part_after xs ys took p
fails_after c (Writer kind) xs ys took p = part_after xs ys took p

-- what a `?` returns
returned :
    {R : Type 0} (a b : Account) (page : List ℕ) (e : PageError) (r : Result R PageError) → IsErrAnd r (λ x. x ≡ e) →
    PageFails a b page e → IfErr r (PageFails a b page)
returned a b page e (Ok u) is fails = tt
returned a b page e (Err x) is fails = subst (PageFails a b page) (sym is) fails

-- ---- of a page

-- what stands before the data was refused
pub head_refused :
    {R : Type 0} {a b : Account} {kind : ErrorKind} {accepted : ℕ} {s head : List ℕ} (rest : List ℕ)
    (r : Result R PageError) → IsErrAnd r (λ x. x ≡ Writer kind) → s ≡ head → accepted < length s →
    TookOnly a b (take accepted s) (kind ∷ []) → IfErr r (PageFails a b (head ++ rest))
head_refused {R} {a} {b} {kind} {accepted} {s} {head} rest r is same fits took =
    returned a b (head ++ rest) (Writer kind) r is
    (subst (λ (l : List ℕ). PageFails a b (l ++ rest) (Writer kind)) same
    (fails_before a b (Writer kind) s rest (accepted, fits, took)))

-- the data was refused, or a growth for it
pub data_refused :
    {R : Type 0} {a b : Account} {s head : List ℕ} (c : Account) (e : PageError) (text tail : List ℕ)
    (r : Result R PageError) → IsErrAnd r (λ x. x ≡ e) → s ≡ head → TookOnly a b s [] → PageFails b c text e →
    IfErr r (PageFails a c (head ++ (text ++ tail)))
data_refused {R} {a} {b} {s} {head} c e text tail r is same took fails =
    returned a c (head ++ (text ++ tail)) e r is
    (subst (λ (l : List ℕ). PageFails a c (l ++ (text ++ tail)) e) same
    (fails_after c e s (text ++ tail) took (fails_before b c e text tail fails)))

-- what stands after the data was refused
pub tail_refused :
    {R : Type 0} {a b c d : Account} {kind : ErrorKind} {accepted : ℕ} {s head t tail : List ℕ} (text : List ℕ)
    (r : Result R PageError) → IsErrAnd r (λ x. x ≡ Writer kind) → s ≡ head → t ≡ tail → TookOnly a b s [] →
    TookOnly b c text [] → accepted < length t → TookOnly c d (take accepted t) (kind ∷ []) →
    IfErr r (PageFails a d (head ++ (text ++ tail)))
tail_refused {R} {a} {b} {c} {d} {kind} {accepted} {s} {head} {t} {tail} text r is first last took more fits front =
    returned a d (head ++ (text ++ tail)) (Writer kind) r is
    (subst (λ (l : List ℕ). PageFails a d (l ++ (text ++ tail)) (Writer kind)) first
    (subst (λ (l : List ℕ). PageFails a d (s ++ (text ++ l)) (Writer kind)) last
    (fails_after d (Writer kind) s (text ++ t) took
    (fails_after d (Writer kind) text t more (accepted, fits, front)))))

-- ---- of the data

-- something stands for each byte
byte_some : (x : ℕ) → 0 < length (escaped_byte x)
byte_some x = by_case (cases_eq x less_than)
  where
    by_case : (x ≡ less_than) ⊎ (x ≡ less_than → ⊥) → 0 < length (escaped_byte x)
    by_case (inl e) = rw e (omega arith)
    by_case (inr ne) = rw (ne_eqb x less_than ne) (omega arith)

-- of some bytes some are left, once they are escaped
escaped_some : (xs : List ℕ) → 0 < length xs → 0 < length (escaped xs)
escaped_some [] some = absurd (omega (arith, some))
escaped_some (x ∷ xs) some = omega (arith, length-append (escaped_byte x) (escaped xs), byte_some x)

-- the data by a place in its text
at_place : (text : List ℕ) (i : ℕ) → escaped (take i text) ++ escaped (drop i text) ≡ escaped text
at_place text i = sym (escaped-append (take i text) (drop i text)) ∙ ap escaped (take-append-drop i text)

-- a growth was refused before all was sent
pub growth_refused :
    {R : Type 0} {a b : Account} (text : List ℕ) (i : ℕ) (r : Result R PageError) → IsErrAnd r (λ x. x ≡ OutOfMemory) →
    i < length text → TookOnly a b (escaped (take i text)) [] → IfErr r (PageFails a b (escaped text))
growth_refused {R} {a} {b} text i r is fits took =
    let left : 0 < length (drop i text) = omega (arith, length-drop i text, fits) in
    returned a b (escaped text) OutOfMemory r is
    (subst (λ (l : List ℕ). PageFails a b l OutOfMemory) (at_place text i)
    (fails_after b OutOfMemory (escaped (take i text)) (escaped (drop i text)) took
    (0, escaped_some (drop i text) left, TookOnly-none b)))

-- a piece was refused
pub piece_refused :
    {R : Type 0} {a b c : Account} {kind : ErrorKind} {accepted : ℕ} {held : List ℕ} (text : List ℕ) (i n : ℕ)
    (r : Result R PageError) → IsErrAnd r (λ x. x ≡ Writer kind) → TookOnly a b (escaped (take i text)) [] →
    held ≡ escaped (take n (drop i text)) → accepted < length held →
    TookOnly b c (take accepted held) (kind ∷ []) → IfErr r (PageFails a c (escaped text))
piece_refused {R} {a} {b} {c} {kind} {accepted} {held} text i n r is took same fits front =
    let rest = drop i text in
    let whole : PageFails b c (escaped rest) (Writer kind) =
    subst (λ (l : List ℕ). PageFails b c l (Writer kind)) (at_place rest n)
    (subst (λ (l : List ℕ). PageFails b c (l ++ escaped (drop n rest)) (Writer kind)) same
    (fails_before b c (Writer kind) held (escaped (drop n rest)) (accepted, fits, front))) in
    returned a c (escaped text) (Writer kind) r is
    (subst (λ (l : List ℕ). PageFails a c l (Writer kind)) (at_place text i)
    (fails_after c (Writer kind) (escaped (take i text)) (escaped rest) took whole))
