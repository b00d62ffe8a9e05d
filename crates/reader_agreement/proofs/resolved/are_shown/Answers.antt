use Rattle.std.proofs.Common.{◌≡◌, ℕ, ◌+◌, ◌<◌, List, ◌∷◌, drop, length, get_or, String, Global, refl, sym, ap, ◌∙◌}
use Rattle.std.proofs.lemmas.List.{drop_more, drop_all}
use Rattle.std.specs.Prelude.{string_bytes}
use Rattle.trace_values.specs.TraceFields.{string_pairs}
use Rattle.reader_agreement.proofs.SideBySide.{at_end, begins, one_more, one_other}
use Rattle.reader_agreement.proofs.resolved.are_shown.Goals as goal

abbrev Owned : Type 0
Owned = String Global × String Global

-- the pair of an index, and those after it
here_is :
    (pairs : List Owned) (i : ℕ) (x : Owned) → i < length pairs → x ≡ get_or pairs i x
    → string_pairs (drop i pairs) ≡ (string_bytes x.0, string_bytes x.1) ∷ string_pairs (drop (i + 1) pairs)
here_is pairs i x lt is =
    ap (λ (ps : List Owned). string_pairs ps)
    (drop_more pairs i x lt ∙ ap (λ (z : Owned). z ∷ drop (i + 1) pairs) (sym is))

pub loop-pair-init : goal.loop-pair-init
loop-pair-init c = begins _ _ refl c.iter-others.ensures

pub loop-pair-preserved-whole : goal.loop-pair-preserved-whole
loop-pair-preserved-whole c = (
  (tt, tt),
  one_more _ _ _ c.loop-pair.invariant
      (here_is c.args.pairs.now c.loop-pair.pair-index c.pair-item.result c.loop-pair-test.true c.pair-item.is)
      (c.is_next_pair.ensures.next c.if-not-is_next_pair.false),
)

pub returns-then-not-is_next_pair : goal.returns-then-not-is_next_pair
returns-then-not-is_next_pair c =
    one_other _ _ _ c.loop-pair.invariant
    (here_is c.args.pairs.now c.loop-pair.pair-index c.pair-item.result c.loop-pair-test.true c.pair-item.is)
    c.is_next_pair.ensures.other
    c.if-not-is_next_pair.true

pub returns : goal.returns
returns c =
    at_end _ c.next.result _ _ c.loop-pair.invariant
    (ap (λ (ps : List Owned). string_pairs ps)
    (drop_all c.loop-pair.pair-index c.args.pairs.now c.loop-pair-test.false)) c.next.ensures.steps
    c.is_none.ensures
