use Rattle.std.proofs.Common.{string_bytes}
use Rattle.gotymbe_plan.proofs.EndingTexts.{unread_appended, unwritten_appended}
use Rattle.gotymbe_plan.proofs.ending.push_reason.Goals as goal

pub returns-in-Unread : goal.returns-in-Unread
returns-in-Unread c =
    unread_appended c.args.ending c.in-Unread.kind c.error_text.result.now (string_bytes c.args.out.now)
    (string_bytes c.push_both.new.out) c.push_both.result c.in-Unread.is c.error_text.ensures c.push_both.ensures

pub returns-in-Unwritten : goal.returns-in-Unwritten
returns-in-Unwritten c =
    unwritten_appended c.args.ending c.in-Unwritten.kind c.error_text-in-Unwritten.result.now
    (string_bytes c.args.out.now) (string_bytes c.push_both-in-Unwritten.new.out) c.push_both-in-Unwritten.result
    c.in-Unwritten.is c.error_text-in-Unwritten.ensures c.push_both-in-Unwritten.ensures
