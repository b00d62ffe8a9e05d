use Rattle.std.proofs.Common.{length}
use Rattle.gotymbe_plan.proofs.statistics.+push_digits_from.Given as goal

abbrev pub decreases-push_digits_from : goal.decreases-push_digits_from
decreases-push_digits_from l = length l.counts.now
