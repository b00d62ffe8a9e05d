use Rattle.std.proofs.Common.{string_bytes}
use Rattle.gotymbe_plan.proofs.EndingTexts.{unfinished_appended}
use Rattle.gotymbe_plan.proofs.ending.push_unfinished.Goals as goal

pub returns : goal.returns
returns c =
    unfinished_appended c.args.place (string_bytes c.args.out.now) (string_bytes c.push_str.new.self)
    (string_bytes c.push_grouped.new.out) c.push_grouped.result c.in_ok-push_str.ensures.bytes c.push_grouped.ensures
