use Rattle.std.proofs.Common.{◌≡◌, ◌<◌, ◌≤◌, length, arith, rules}
use Rattle.std.proofs.lemmas.Result.{err_from_is_err_and}
use Rattle.trace_stats.proofs.EventAddedToSchema.{none_below, one_below, all_added, fields_full}
use Rattle.trace_stats.proofs.schema.add_values.Goals as goal

pub fields-init : goal.fields-init
fields-init c = none_below _ _

pub fields-preserved : goal.fields-preserved
fields-preserved c =
    one_below c.fields.index _ _ _ _ c.fields.invariant c.add_value.ensures.count c.in_ok-add_value.ensures.added

pub returns-clause-added : goal.returns-clause-added
returns-clause-added c =
    let n : c.len-index-end.result ≡ length c.args.fields.now.items = search rules in
    let le : length c.args.fields.now.items ≤ c.fields.index = omega (arith, n, c.fields-test.false) in
    all_added _ _ _ _ le c.fields.invariant

pub returns-in_err-add_value-clause-full : goal.returns-in_err-add_value-clause-full
returns-in_err-add_value-clause-full c =
    let many : c.len-index-end.result ≡ length c.args.fields.now.items = search rules in
    let lt : c.fields.index < length c.args.fields.now.items = omega (arith, many, c.fields-test.true) in
    let p = err_from_is_err_and c.from_residual.result c.from_residual.ensures.1 in
    rw p.1 (λ n es h. fields_full c.fields.index n _ es _ _ lt c.fields.invariant c.in_err-add_value.ensures.full h)
