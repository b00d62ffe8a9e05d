use Rattle.std.proofs.Common.{string_bytes}
use Rattle.gotymbe_plan.proofs.EndingOnPage.{end_appended}
use Rattle.gotymbe_plan.proofs.page.push_told.Goals as goal

pub returns : goal.returns
returns c =
    end_appended c.args.name.now c.args.ending (string_bytes c.args.out.now) (string_bytes c.push_start.new.out)
    (string_bytes c.push_reason.new.out) c.push_reason.result c.in_ok-push_start.ensures c.push_reason.ensures
