use Rattle.std.proofs.Common.{◌∙◌}
use Rattle.dial9_trace_format.specs.parts.Resolving.{as_pools}
use Rattle.trace_page.specs.Holding.{tables_of}
use Rattle.trace_page.specs.PageValues.{IsPageValue}
use Rattle.trace_page.proofs.Growing.{grows_trans, value_grows}
use Rattle.trace_page.proofs.MoreStand.{zip_stands}
use Rattle.trace_page.proofs.values.put_values.Goals as goal

pub values-preserved : goal.values-preserved
values-preserved g c =
    let p = as_pools c.args.strings.now c.args.stacks.now in
    let before = tables_of c.values.names in
    let after = tables_of c.put_value.new.names in
    record {
      tokens = zip_stands g.V.TraceValue.value (IsPageValue before p) (IsPageValue after p)
          (value_grows before after c.in_ok-put_value.ensures.grown p) c.args.values.now c.values.value-index _
          (record { inside = c.values-test.true; is = c.value-item.is }) c.values.invariant.tokens
          c.in_ok-put_value.ensures.tokens;
      grown = grows_trans _ _ _ c.values.invariant.grown c.in_ok-put_value.ensures.grown;
      before = c.in_ok-put_value.ensures.before ∙ c.values.invariant.before;
    }
