use Rattle.gotymbe_plan.proofs.LinesOfFields.{floats_appended}
use Rattle.gotymbe_plan.proofs.statistics.push_float_counts.Goals as goal

pub returns : goal.returns
returns c =
    floats_appended c.push_named-2.result c.args.floats.now _ _ c.count.ensures c.not_numbers.ensures
    c.in_ok-push_named.ensures c.in_ok-push_bounds.ensures c.push_named-2.ensures
