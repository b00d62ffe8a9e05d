-- Numbers with commas, a group more.
use Rattle.std.proofs.Common.{◌≡◌, ℕ, suc, ◌/◌, ◌%◌, ◌≤◌, List, ◌++◌, codes, Result, Ok, Err, OnOk, refl, ap, ◌∙◌}
use Rattle.std.proofs.Common.{append_assoc}
use Rattle.gotymbe_plan.specs.Numbers.{IsGrouped, three_digits}

-- three digits after a comma after a grouped number make it grouped
pub one_group_more :
    {E : Type 0} (n : ℕ) (old a b new : List ℕ) (r : Result (Unit {0}) E) → 1000 ≤ n →
    (front : List ℕ) × IsGrouped (n / 1000) front × (a ≡ old ++ front) → b ≡ a ++ codes "," →
    OnOk r (new ≡ b ++ three_digits (n % 1000)) →
    OnOk r ((text : List ℕ) × IsGrouped n text × (new ≡ old ++ text))
one_group_more n old a b new (Err e) big x y z = z
one_group_more n old a b new (Ok u) big (front, (k, commas), a_is) b_is is =
    let last = three_digits (n % 1000) in
    let comma = codes "," in (
      front ++ comma ++ last,
      (suc k, (big, (front, commas, refl))),
      is ∙ ap (λ (x : List ℕ). x ++ last) (b_is ∙ ap (λ (x : List ℕ). x ++ comma) a_is)
          ∙ ap (λ (x : List ℕ). x ++ last) (append_assoc old front comma)
          ∙ append_assoc old (front ++ comma) last,
    )
