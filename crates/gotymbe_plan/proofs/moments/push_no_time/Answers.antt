use Rattle.std.proofs.Common.{◌∙◌, ◌++◌, ap, List, ℕ, string_bytes, codes}
use Rattle.trace_lines.specs.Lines.{quoted}
use Rattle.gotymbe_plan.proofs.TimesBesideMoments.{no_time_appended, appended_if_ok}
use Rattle.gotymbe_plan.proofs.moments.push_no_time.Goals as goal

pub returns : goal.returns
returns c =
    no_time_appended c.args.text.now (string_bytes c.args.out.now) (string_bytes c.push_str.new.self)
    (string_bytes c.push_quoted.new.out) (string_bytes c.push_str-2.new.self) c.push_str-2.result
    c.in_ok-push_str.ensures.bytes
    (c.in_ok-push_quoted.ensures
    ∙ ap (λ (t : List ℕ). string_bytes c.push_str.new.self ++ quoted t) c.as_bytes.ensures.value)
    (appended_if_ok (string_bytes c.push_quoted.new.out) (string_bytes c.push_str-2.new.self)
    (codes " says no time for --") c.push_str-2.result c.push_str-2.ensures.bytes)
