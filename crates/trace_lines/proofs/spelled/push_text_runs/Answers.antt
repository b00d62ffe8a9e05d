use Rattle.std.proofs.Common.{codes, refl, sym}
use Rattle.std.specs.List.{flat_map}
use Rattle.trace_lines.specs.Lines.{quoted_byte}
use Rattle.trace_lines.proofs.GrowingParts.{all_left, part_put, part_not_put}
use Rattle.trace_lines.proofs.TextRuns.{run_and_rest, text_begins, text_left}
use Rattle.trace_lines.proofs.spelled.push_text_runs.Goals as goal

pub returns : goal.returns
returns g c =
    let s = c.args.characters.now in
    part_not_put _ (codes "String:\"") (text_left s) _ g.met.L.GrowingLine.stops
    (all_left g.L.GrowingLine.grows c.args.out.now (sym (text_begins s))) refl c.in-Err-tri.ensures

pub runs-init : goal.runs-init
runs-init g c =
    let s = c.args.characters.now in
    part_put _ (codes "String:\"") (text_left s) g.met.L.GrowingLine.joins
    (all_left g.L.GrowingLine.grows c.args.out.now (sym (text_begins s))) refl c.in-Ok-tri.ensures

pub runs-preserved : goal.runs-preserved
runs-preserved g c =
    part_put _ (flat_map quoted_byte c.split_at.result.0.now) (text_left c.split_at.result.1.now)
    g.met.L.GrowingLine.joins c.runs.invariant
    (run_and_rest c.runs.rest.now 4096 c.split_at.ensures.front c.split_at.ensures.back) c.in-Ok-tri-2.ensures

pub returns-in-runs : goal.returns-in-runs
returns-in-runs g c =
    part_not_put _ (flat_map quoted_byte c.split_at.result.0.now) (text_left c.split_at.result.1.now) _
    g.met.L.GrowingLine.stops c.runs.invariant
    (run_and_rest c.runs.rest.now 4096 c.split_at.ensures.front c.split_at.ensures.back) c.in-Err-tri-2.ensures

pub returns-2 : goal.returns-2
returns-2 g c =
    part_not_put _ (flat_map quoted_byte c.runs.rest.now) (codes "\"") _ g.met.L.GrowingLine.stops c.runs.invariant
    refl c.in-Err-tri-3.ensures

pub returns-3 : goal.returns-3
returns-3 g c =
    let last = part_put _ (flat_map quoted_byte c.runs.rest.now) (codes "\"") g.met.L.GrowingLine.joins
    c.runs.invariant refl c.in-Ok-tri-3.ensures in
    last.answers c.put-2.result c.put-2.new.self c.put-2.ensures
