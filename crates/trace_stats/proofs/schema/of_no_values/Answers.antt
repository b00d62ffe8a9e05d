use Rattle.std.proofs.Common.{◌++◌, ◌∷◌, [], ap, ◌∙◌, List}
use Rattle.trace_stats.specs.declared.field.FieldStats.{FieldStats}
use Rattle.trace_stats.proofs.EventAddedToSchema.{none_made, one_made}
use Rattle.trace_stats.proofs.schema.of_no_values.Goals as goal

pub fields-init : goal.fields-init
fields-init c = none_made _ c.new-fields.ensures.items

pub fields-preserved : goal.fields-preserved
fields-preserved c =
    one_made c.fields.counter c.fields.fields.items _ c.new.result c.fields.invariant
    (c.push_reserved.ensures.items ∙ ap (λ (l : List FieldStats). l ++ c.new.result ∷ []) c.reserve.ensures.items)
    c.new.ensures
