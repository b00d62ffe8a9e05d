-- Looking for the sign at one place after another.
use Rattle.std.proofs.Common.{◌≡◌, ℕ, ◌+◌, ◌-◌, ◌<◌, Bool, true, false, ◌||◌, List, ◌∷◌, length, get_or, drop}
use Rattle.std.proofs.Common.{nat_eq, sym, ap}
use Rattle.std.proofs.Common.{◌∙◌, take, take_all, length-drop, arith}
use Rattle.std.proofs.lemmas.List.{drop_more}
use Rattle.std.specs.List.{starts_with}
use Rattle.reader_agreement.specs.Signs.{has_sign, sign}

one_less :
    (bytes : List ℕ) (i : ℕ) {whole : Bool} → i < length bytes → has_sign (drop i bytes) ≡ whole
    → (starts_with nat_eq (drop i bytes) sign || has_sign (drop (i + 1) bytes)) ≡ whole
one_less bytes i lt before =
    let here : drop i bytes ≡ get_or bytes i 0 ∷ drop (i + 1) bytes = drop_more bytes i 0 lt in
    ap (λ (xs : List ℕ). starts_with nat_eq xs sign || has_sign (drop (i + 1) bytes)) here
    ∙ sym (ap (λ (xs : List ℕ). has_sign xs) here) ∙ before

-- where it does not stand at a place, what comes after that has it where the whole has
pub not_here :
    (bytes : List ℕ) (i : ℕ) (found : Bool) {whole : Bool} → i < length bytes
    → found ≡ starts_with nat_eq (drop i bytes) sign → found ≡ false → has_sign (drop i bytes) ≡ whole
    → has_sign (drop (i + 1) bytes) ≡ whole
not_here bytes i found lt is none before =
    ap (λ (b : Bool). b || has_sign (drop (i + 1) bytes)) (sym none ∙ is) ∙ one_less bytes i lt before

-- where it does, the whole has it
pub stands_here :
    (bytes : List ℕ) (i : ℕ) (found : Bool) {whole : Bool} → i < length bytes
    → found ≡ starts_with nat_eq (drop i bytes) sign → found ≡ true → has_sign (drop i bytes) ≡ whole → true ≡ whole
stands_here bytes i found lt is here before =
    ap (λ (b : Bool). b || has_sign (drop (i + 1) bytes)) (sym here ∙ is) ∙ one_less bytes i lt before

-- what is told of the slice from a place on is told of what is left there
pub slice_is :
    (bytes : List ℕ) (i : ℕ) {found : Bool}
    → found ≡ starts_with nat_eq (take (length bytes - i) (drop i bytes)) sign
    → found ≡ starts_with nat_eq (drop i bytes) sign
slice_is bytes i is =
    let whole : take (length bytes - i) (drop i bytes) ≡ drop i bytes =
    take_all (length bytes - i) (drop i bytes) (omega (arith, length-drop i bytes)) in
    is ∙ ap (λ (xs : List ℕ). starts_with nat_eq xs sign) whole
