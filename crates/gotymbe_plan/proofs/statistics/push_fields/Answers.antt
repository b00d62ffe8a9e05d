use Rattle.std.proofs.Common.{◌≡◌, ◌<◌, ◌≤◌, ◌++◌, ◌∙◌, ℕ, List, ap, arith, length, min, rules, string_bytes}
use Rattle.gotymbe_plan.specs.Statistics.{field_lines}
use Rattle.gotymbe_plan.proofs.LinesOfFields.{one_more, all_lines}
use Rattle.gotymbe_plan.proofs.statistics.push_fields.Goals as goal

pub pairs-preserved : goal.pairs-preserved
pairs-preserved c =
    let count : c.min-count.result ≡ min (length c.args.fields.now) (length c.args.stats.now) = search rules in
    let inside : c.pairs.index < length c.args.fields.now = omega (arith, count, c.pairs-test.true) in
    let kept : c.pairs.index < length c.args.stats.now = omega (arith, count, c.pairs-test.true) in
    let name : c.name.result.now ≡ c.index-fields-index.result.name = search rules in
    one_more (string_bytes c.args.out.now) c.args.fields.now c.args.stats.now c.pairs.index
    c.index-fields-index.result c.index-stats-index.result
    (record { inside = inside; kept = kept; field = c.index-fields-index.is; stats_is = c.index-stats-index.is })
    c.pairs.invariant
    (c.in_ok-push_field.ensures
    ∙ ap (λ (n : List ℕ). string_bytes c.pairs.out ++ field_lines n c.index-stats-index.result) name)

pub returns : goal.returns
returns c =
    let count : c.min-count.result ≡ min (length c.args.fields.now) (length c.args.stats.now) = search rules in
    let le : c.min-count.result ≤ c.pairs.index = omega (arith, c.pairs-test.false) in
    all_lines (string_bytes c.args.out.now) (string_bytes c.pairs.out) c.args.fields.now c.args.stats.now
    c.pairs.index c.min-count.result count le c.pairs.invariant
