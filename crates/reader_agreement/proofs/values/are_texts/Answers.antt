use Rattle.std.proofs.Common.{◌≡◌, ℕ, ◌+◌, ◌-◌, List, ◌∷◌, length, drop, refl, sym, ap, ap₂, ◌∙◌, Vec, Global}
use Rattle.std.proofs.lemmas.Bool.{false≢true}
use Rattle.std.proofs.lemmas.List.{drop_more, drop_all, length-map}
use Rattle.trace_values.specs.Raw.{pairs_in}
use Rattle.trace_values.specs.ValueViews.{text_pairs_view}
use Rattle.reader_agreement.proofs.SideBySide.{begins, one_more, one_other, same_heads}
use Rattle.reader_agreement.proofs.PairsLeft.{all_stand, none_left, one_can_be_read, one_is_read}
use Rattle.reader_agreement.proofs.values.are_texts.Goals as goal

abbrev Owned : Type 0
Owned = Vec ℕ Global × Vec ℕ Global

-- the pair of an index, and those after it
here_is :
    (pairs : List Owned) (i : ℕ) (x : Owned) → drop i pairs ≡ x ∷ drop (i + 1) pairs
    → text_pairs_view (drop i pairs) ≡ (x.0.items, x.1.items) ∷ text_pairs_view (drop (i + 1) pairs)
here_is pairs i x e = ap (λ (ps : List Owned). text_pairs_view ps) e

pub returns-then-count-pairs : goal.returns-then-count-pairs
returns-then-count-pairs c = (
  λ e. absurd (false≢true e),
  λ p. absurd (c.if-count-pairs.true (c.count.ensures
      ∙ sym (ap (λ (ps : List (List ℕ × List ℕ)). length ps) p) ∙ length-map c.args.pairs.now _)),
)

pub loop-pair-init : goal.loop-pair-init
loop-pair-init c =
    let all = all_stand c.args.map.now (length c.args.pairs.now) c.raw_data-rest.result.now
    (sym c.if-count-pairs.false ∙ c.count.ensures) c.raw_data-rest.ensures in
    (begins _ _ refl (sym all.1), all.0)

pub unwrap-requires : goal.unwrap-requires
unwrap-requires c =
    one_can_be_read (λ x. ((x.0.0.now, x.0.1.now), x.1.now)) c.text_pair_at.result (length c.args.pairs.now)
    c.loop-pair.pair-index c.loop-pair.rest.now c.loop-pair-test.true c.text_pair_at.ensures c.loop-pair.invariant.1

pub loop-pair-preserved : goal.loop-pair-preserved
loop-pair-preserved c =
    let pairs = c.args.pairs.now in
    let i = c.loop-pair.pair-index in
    let x = c.pair-item.result in
    let found = c.unwrap.result.0 in
    let read = one_is_read (λ y. ((y.0.0.now, y.0.1.now), y.1.now)) (length pairs) i c.loop-pair.rest.now
    c.loop-pair-test.true c.text_pair_at.ensures c.unwrap.ensures c.loop-pair.invariant.1 in
    let here = here_is pairs i x (drop_more pairs i x c.loop-pair-test.true
    ∙ ap (λ (z : Owned). z ∷ drop (i + 1) pairs) (sym c.pair-item.is)) in
    let parts = c.is_pair.ensures.0 c.if-not-is_pair.false in
    let same : ◌≡◌ {A = List ℕ × List ℕ} (found.0.now, found.1.now) (x.0.items, x.1.items) =
    ap₂ (λ (a b : List ℕ). (a, b)) (sym parts.0) (sym parts.1) in (
      one_more (x.0.items, x.1.items) _ _ c.loop-pair.invariant.0 here
          (read.1 ∙ ap (λ (p : List ℕ × List ℕ). p ∷ pairs_in (length pairs - (i + 1)) c.unwrap.result.1.now) same),
      read.0,
    )

pub returns-then-not-is_pair : goal.returns-then-not-is_pair
returns-then-not-is_pair c =
    let pairs = c.args.pairs.now in
    let i = c.loop-pair.pair-index in
    let x = c.pair-item.result in
    let found = c.unwrap.result.0 in
    let read = one_is_read (λ y. ((y.0.0.now, y.0.1.now), y.1.now)) (length pairs) i c.loop-pair.rest.now
    c.loop-pair-test.true c.text_pair_at.ensures c.unwrap.ensures c.loop-pair.invariant.1 in
    let here = here_is pairs i x (drop_more pairs i x c.loop-pair-test.true
    ∙ ap (λ (z : Owned). z ∷ drop (i + 1) pairs) (sym c.pair-item.is)) in
    one_other c.is_pair.result (x.0.items, x.1.items) _ c.loop-pair.invariant.0 here
    (λ rest e. let same = same_heads (found.0.now, found.1.now) (x.0.items, x.1.items) _ rest (sym read.1 ∙ e) in
    c.is_pair.ensures.1 (
      sym (ap (λ (p : List ℕ × List ℕ). p.0) same),
      sym (ap (λ (p : List ℕ × List ℕ). p.1) same),
    ))
    c.if-not-is_pair.true

pub returns : goal.returns
returns c =
    let pairs = c.args.pairs.now in
    let i = c.loop-pair.pair-index in
    let left = ap (λ (ps : List Owned). text_pairs_view ps) (drop_all i pairs c.loop-pair-test.false) in
    let right = none_left (length pairs) i c.loop-pair.rest.now c.loop-pair-test.false in
    (λ _. c.loop-pair.invariant.0.forth (left ∙ sym right), λ _. refl)
