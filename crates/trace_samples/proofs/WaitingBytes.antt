-- Which bytes of a fixed array wait.
use Rattle.std.proofs.Common.{◌≡◌, ℕ, ◌≤◌, List, [], ◌++◌, length, take, drop, true, nat_eq, sym, ap, ◌∙◌, arith}
use Rattle.std.proofs.lemmas.Bool.{eqb-true, eq-eqb}
use Rattle.std.proofs.lemmas.List.{drop_all, drop-append-le, length-drop, length-take-le}

-- none waits exactly where as many were handed on as were accepted
pub none_waits :
    (handed len : ℕ) (buffer waiting : List ℕ) → drop handed (take len buffer) ≡ waiting → handed ≤ len →
    len ≤ length buffer → (nat_eq handed len ≡ true → waiting ≡ []) × (waiting ≡ [] → nat_eq handed len ≡ true)
none_waits handed len buffer waiting is low high =
    let size = length-take-le len buffer high in (
      λ e. (let same = eqb-true handed len e in sym is
          ∙ drop_all handed (take len buffer) (omega (arith, size, same))),
      λ none.
          (let left = ap length (is ∙ none) in eq-eqb handed len
          (omega (arith, size, left, low, length-drop handed (take len buffer)))),
    )

-- accepted bytes wait after those that waited
pub more_wait :
    (handed len : ℕ) (buffer new more waiting : List ℕ) → new ≡ take len buffer ++ more →
    drop handed (take len buffer) ≡ waiting → handed ≤ len → len ≤ length buffer → drop handed new ≡ waiting ++ more
more_wait handed len buffer new more waiting grown is low high =
    let size = length-take-le len buffer high in
    ap (drop handed) grown ∙ drop-append-le handed (take len buffer) more (omega (arith, size, low))
    ∙ ap (λ (front : List ℕ). front ++ more) is
