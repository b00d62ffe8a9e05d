-- Words of a program, and the dump of what was read.
use Rattle.std.proofs.Common.{◌≡◌, ◌≤◌, ◌<◌, ◌⊎◌, inr, Bool, ℕ, List, [], ◌∷◌, length, get_or, sym, ap, subst, arith}
use Rattle.trace_values.specs.Sending.{Account}
use Rattle.trace_lines.specs.Dumps.{BeginsDump, IsDump, Prints, PrintsUpToFault}

-- one word alone
pub one_word :
    {A : Type 0} (words : List A) (word : A) → 1 ≤ length words → length words < 2 → word ≡ get_or words 0 word →
    words ≡ word ∷ []
one_word [] word some few is = absurd (omega (arith, some))
one_word (w ∷ []) word some few is = ap (λ x. x ∷ []) (sym is)
one_word (w ∷ (v ∷ words)) word some few is = absurd (omega (arith, few))

-- a front of the dump of what was read
pub front_read :
    (asked resolve : Bool) (held bytes : List ℕ) (old new : Account) → asked ≡ resolve → held ≡ bytes →
    PrintsUpToFault (BeginsDump asked held) old new →
    PrintsUpToFault (λ written. (written ≡ []) ⊎ BeginsDump resolve bytes written) old new
front_read asked resolve held bytes old new same read (written, begins, faults, few, took) =
    let of_read = subst (λ (h : List ℕ). BeginsDump asked h written) read begins in
    (written, inr (subst (λ (r : Bool). BeginsDump r bytes written) same of_read), faults, few, took)

-- the dump of all that was read
pub all_read :
    (asked resolve : Bool) (held bytes : List ℕ) (old new : Account) (status : ℕ) → asked ≡ resolve → held ≡ bytes →
    Prints (IsDump asked held status) old new → Prints (IsDump resolve bytes status) old new
all_read asked resolve held bytes old new status same read prints =
    subst (λ (r : Bool). Prints (IsDump r bytes status) old new) same
    (subst (λ (h : List ℕ). Prints (IsDump asked h status) old new) read prints)
