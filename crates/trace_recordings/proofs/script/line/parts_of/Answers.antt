use Rattle.std.proofs.Common.{rules, ◌≡◌, ◌++◌, ◌∙◌, ℕ, ◌≤◌, ◌<◌, List, [], ◌∷◌, length, get_or, IfOk, codes, ap}
use Rattle.std.proofs.Common.{refl, subst, sym, arith}
use Rattle.trace_recordings.specs.Scripts.{Says}
use Rattle.trace_recordings.proofs.EventValues.{number_more, no_number_more}
use Rattle.trace_recordings.proofs.script.line.parts_of.Goals as goal

-- a list of eight is its eight numbers
of_eight : (w : List ℕ) → 8 ≤ length w → length w < 9 →
    get_or w 0 0 ∷ get_or w 1 0 ∷ get_or w 2 0 ∷ get_or w 3 0 ∷ get_or w 4 0 ∷ get_or w 5 0 ∷ get_or w 6 0 ∷ get_or
    w 7 0 ∷ [] ≡ w
of_eight w enough below =
    let all : length w ≤ 8 = omega (arith, below) in
    number_more w 8 enough 0 refl _
    (number_more w 8 enough 1 refl _ (number_more w 8 enough 2 refl _ (number_more w 8 enough 3 refl _ (
    number_more w 8 enough 4 refl _
    (number_more w 8 enough 5 refl _
    (number_more w 8 enough 6 refl _ (number_more w 8 enough 7 refl _ (no_number_more w 8 all))))))))

pub returns-in-register : goal.returns-in-register
returns-in-register c =
    let w : List ℕ = c.first_word.result.0.now in
    let a : get_or w 0 0 ≡ 114 = search rules in
    let b : get_or w 1 0 ≡ 101 = search rules in
    let d : get_or w 2 0 ≡ 103 = search rules in
    let e : get_or w 3 0 ≡ 105 = search rules in
    let f : get_or w 4 0 ≡ 115 = search rules in
    let g : get_or w 5 0 ≡ 116 = search rules in
    let h : get_or w 6 0 ≡ 101 = search rules in
    let i : get_or w 7 0 ≡ 114 = search rules in
    let word : w ≡ codes "register" =
    sym (of_eight w c.in-register.len_at_least c.in-register.len_below) ∙ rw (a, b, d, e, f, g, h, i) refl in
    let line : c.args.line.now ≡ codes "register" ++ c.first_word.result.1.now =
    c.first_word.ensures ∙ ap (λ (w : List ℕ). w ++ c.first_word.result.1.now) word in
    subst (λ (l : List ℕ). IfOk c.register_call.result (λ call. Says call l)) (sym line) c.register_call.ensures
