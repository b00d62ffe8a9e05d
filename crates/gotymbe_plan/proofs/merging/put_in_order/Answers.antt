use Rattle.std.proofs.Common.{rules}
use Rattle.std.proofs.lemmas.List.Sorted.{IsNonDecreasingBy-from_sort_by_key, answers_always}
use Rattle.gotymbe_plan.proofs.SortWasDone.{on_ok-follows}
use Rattle.gotymbe_plan.proofs.merging.put_in_order.Goals as goal

pub returns-clause-ordered : goal.returns-clause-ordered
returns-clause-ordered c =
    on_ok-follows c.sort_by_key.result
    (λ sorted. IsNonDecreasingBy-from_sort_by_key (λ t. t.time) _ sorted (λ a r q k. search rules))
    c.sort_by_key.ensures.sorted

pub returns-clause-ties : goal.returns-clause-ties
returns-clause-ties c =
    c.sort_by_key.ensures.stable (λ t. t.time) (answers_always _ _ _ (λ f a r g h. search rules))
