use Rattle.std.proofs.Common.{ℕ, ap, map as list_map}
use Rattle.std.specs.Prelude.{codes}
use Rattle.trace_json.specs.EventJson.{list_json}
use Rattle.trace_page.specs.PageValues.{time_json}
use Rattle.trace_page.specs.Pages.{start_of}
use Rattle.trace_page.proofs.Chains.{member_put}
use Rattle.trace_page.proofs.data.writing.put_time_member.Goals as goal

pub returns-clause-tokens : goal.returns-clause-tokens
returns-clause-tokens c =
    let times = c.args.times.now in
    member_put c.put_times.result _ (codes "time") (list_json (list_map (time_json c.start_of.result) times))
    (list_json (list_map (time_json (start_of times)) times)) _
    (ap (λ (s : ℕ). list_json (list_map (time_json s) times)) c.start_of.ensures) c.in_ok-key.ensures.ok
    c.put_times.ensures.tokens
