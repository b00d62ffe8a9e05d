use Rattle.std.proofs.Common.{ℕ, List, ◌++◌, append-nil, ap, sym, ◌∙◌, map}
use Rattle.trace_values.specs.RawViews.{texts_left}
use Rattle.trace_lines.proofs.borrowed.text_front.Goals as goal

pub returns : goal.returns
returns c =
    let l = c.loop-pair in
    let seen = map (λ p. (p.0.now, p.1.now)) l.texts.items in
    sym (append-nil seen)
    ∙ ap (λ (ps : List (List ℕ × List ℕ)). seen ++ ps) (sym c.in-None.ensures.steps.0)
    ∙ l.invariant.2 ∙ ap texts_left c.into_iter-pair-iterator.ensures.into_iter_gives ∙ c.iter-pair-items.ensures

pub loop-pair-init : goal.loop-pair-init
loop-pair-init c = (
  tt,
  tt,
  ap (λ v. map (λ p. (p.0.now, p.1.now)) v ++ texts_left c.into_iter-pair-iterator.result) c.new-texts.ensures.items,
)
