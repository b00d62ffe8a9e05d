use Rattle.std.proofs.Common.{string_bytes}
use Rattle.gotymbe_plan.proofs.EndingTexts.{stop_appended}
use Rattle.gotymbe_plan.proofs.ending.push_stop.Goals as goal

pub returns : goal.returns
returns c =
    stop_appended c.args.stop (string_bytes c.args.out.now) (string_bytes c.push_str.new.self)
    (string_bytes c.push_grouped.new.out) (string_bytes c.push_after_place.new.out) c.push_after_place.result
    c.in_ok-push_str.ensures.bytes c.in_ok-push_grouped.ensures c.push_after_place.ensures
