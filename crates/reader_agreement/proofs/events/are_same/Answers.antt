use Rattle.std.proofs.Common.{◌∙◌, sym}
use Rattle.std.specs.Cmp.Derive.Mapped.{pointwise-map}
use Rattle.trace_values.specs.Equal.{same_value}
use Rattle.trace_values.specs.ValueViews.{view}
use Rattle.reader_agreement.proofs.events.are_same.Goals as goal

pub returns : goal.returns
returns c = c.eq.ensures ∙ sym (pointwise-map view same_value c.args.a.now c.args.b.now)
