-- Bytes compared as two arrays each, which may overlap.
use Rattle.std.proofs.Common.{◌≡◌, ℕ, ◌&&◌, ◌-◌, ◌*◌, ◌≤◌, List, ◌++◌, length, take, drop, sym, ap, ap₂, ◌∙◌}
use Rattle.std.proofs.Common.{arith, take-append-drop, take-take}
use Rattle.std.proofs.lemmas.Bool.{and_parts}
use Rattle.std.proofs.lemmas.Slice.Eq.{bytes_eq-Decides}
use Rattle.std.specs.Str.{bytes_eq}
use Rattle.std.specs.Cmp.{both_ways}
use Rattle.trace_values.specs.parts.types.EqualLaws.{both}

-- bytes are made of their ends
from_ends : (n k : ℕ) (s : List ℕ) → k ≤ n → take k (take n s) ++ drop k s ≡ s
from_ends n k s le = ap (λ (l : List ℕ). l ++ drop k s) (take-take k n s le) ∙ take-append-drop k s

-- bytes are the same exactly where both their ends are
pub ends_alike :
    (n : ℕ) (s t : List ℕ) {s_front t_front s_back t_back : List ℕ} → length s ≡ length t → length s ≤ 2 * n →
    s_front ≡ take n s → t_front ≡ take n t → s_back ≡ drop (length s - n) s → t_back ≡ drop (length t - n) t →
    (bytes_eq s_front t_front && bytes_eq s_back t_back) ≡ bytes_eq s t
ends_alike n s t {s_front} {t_front} {s_back} {t_back} alike short s_first t_first s_last t_last =
    let k : ℕ = length s - n in
    let le : k ≤ n = omega (arith, short) in
    both_ways (bytes_eq s_front t_front && bytes_eq s_back t_back) (bytes_eq s t)
    (λ e.
    let parts = and_parts _ _ e in
    let fronts : take n s ≡ take n t = sym s_first ∙ (bytes_eq-Decides s_front t_front).0 parts.0 ∙ t_first in
    let backs : drop k s ≡ drop k t = sym s_last ∙ (bytes_eq-Decides s_back t_back).0 parts.1 ∙ t_last
    ∙ ap (λ (m : ℕ). drop (m - n) t) (sym alike) in
    (bytes_eq-Decides s t).1
    (sym (from_ends n k s le) ∙ ap₂ (λ (x y : List ℕ). take k x ++ y) fronts backs ∙ from_ends n k t le))
    (λ e.
    let all : s ≡ t = (bytes_eq-Decides s t).0 e in
    both (bytes_eq s_front t_front) (bytes_eq s_back t_back)
    ((bytes_eq-Decides s_front t_front).1 (s_first ∙ ap (λ (l : List ℕ). take n l) all ∙ sym t_first))
    ((bytes_eq-Decides s_back t_back).1
    (s_last ∙ ap (λ (l : List ℕ). drop (length l - n) l) all ∙ sym t_last)))
