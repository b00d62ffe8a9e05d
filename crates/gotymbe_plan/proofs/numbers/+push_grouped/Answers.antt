use Rattle.std.proofs.Common.{rules, ◌≡◌, ◌++◌, ◌≤◌, codes, string_bytes, arith}
use Rattle.gotymbe_plan.proofs.OneGroupMore.{one_group_more}
use Rattle.gotymbe_plan.proofs.numbers.+push_grouped.Goals as goal

pub returns : goal.returns
returns t c =
    let big : 1000 ≤ c.args.number = omega (arith, c.if-number-lt1000.false) in
    let comma : string_bytes c.push.new.self ≡ string_bytes c.push_grouped.new.out ++ codes "," = search rules in
    one_group_more c.args.number (string_bytes c.args.out.now) (string_bytes c.push_grouped.new.out)
    (string_bytes c.push.new.self) (string_bytes c.push_three_digits.new.out) c.push_three_digits.result big
    c.in_ok-push_grouped.ensures comma c.push_three_digits.ensures
