-- Text that is escaped and sent piece by piece.
use Rattle.std.proofs.Common.{◌≡◌, ℕ, ◌+◌, List, [], ◌++◌, take, drop, sym, subst}
use Rattle.std.proofs.Math.Seq.{take-add}
use Rattle.trace_values.specs.Sending.{Account, TookOnly}
use Rattle.trace_values.proofs.TwoStepsOfWriter.{TookOnly-join}
use Rattle.trace_page.specs.Escaping.{escaped}
use Rattle.trace_page.proofs.EscapedStrings.{escaped-append}

-- a further piece of the text, which was escaped and sent
pub escaped_next :
    {a b c : Account} (text : List ℕ) (i n : ℕ) {held : List ℕ} → TookOnly a b (escaped (take i text)) [] →
    TookOnly b c held [] → held ≡ escaped (take n (drop i text)) → TookOnly a c (escaped (take (i + n) text)) []
escaped_next {a} {b} {c} text i n {held} h k is =
    rw (take-add i n text, escaped-append (take i text) (take n (drop i text)), sym is)
    (TookOnly-join a b c (escaped (take i text)) held [] [] h k)

-- three parts, one after another, the first and the last as they were handed on
pub three_sent :
    {a b c d : Account} {x z s t : List ℕ} (y : List ℕ) → s ≡ x → t ≡ z → TookOnly a b s [] → TookOnly b c y [] →
    TookOnly c d t [] → TookOnly a d (x ++ (y ++ z)) []
three_sent {a} {b} {c} {d} {x} {z} {s} {t} y first last h k l =
    subst (λ (v : List ℕ). TookOnly a d (v ++ (y ++ z)) []) first
    (subst (λ (v : List ℕ). TookOnly a d (s ++ (y ++ v)) []) last
    (TookOnly-join a b d s (y ++ t) [] [] h (TookOnly-join b c d y t [] [] k l)))
