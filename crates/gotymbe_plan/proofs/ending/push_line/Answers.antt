use Rattle.std.proofs.Common.{rules, ◌≡◌, ◌++◌, codes, string_bytes, OnOk}
use Rattle.gotymbe_plan.proofs.EndingTexts.{line_appended}
use Rattle.gotymbe_plan.proofs.ending.push_line.Goals as goal

pub returns : goal.returns
returns c =
    let ends : OnOk c.push.result (string_bytes c.push.new.self ≡ string_bytes c.push_reason.new.out ++ codes "\n") =
    search rules in
    line_appended c.args.name.now c.args.ending (string_bytes c.args.out.now) (string_bytes c.push_start.new.out)
    (string_bytes c.push_reason.new.out) (string_bytes c.push.new.self) c.push.result c.in_ok-push_start.ensures
    c.in_ok-push_reason.ensures ends
