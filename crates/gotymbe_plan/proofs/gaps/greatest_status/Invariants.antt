use Rattle.std.proofs.Common.{◌≡◌, take}
use Rattle.gotymbe_plan.specs.Gaps.{greatest_status}
use Rattle.gotymbe_plan.proofs.gaps.greatest_status.Given as goal

abbrev pub invariant-loop-gap : goal.invariant-loop-gap
invariant-loop-gap l = l.status ≡ greatest_status (take l.gap-index l.gaps)
