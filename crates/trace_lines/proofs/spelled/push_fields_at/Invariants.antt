use Rattle.trace_wire.specs.Schemas.{types_of}
use Rattle.trace_lines.proofs.SpelledParts.{FieldsLeft}
use Rattle.trace_lines.proofs.spelled.push_fields_at.Given as goal

abbrev pub invariant-fields : goal.invariant-fields
invariant-fields g l =
    FieldsLeft g.L.GrowingLine.grows (types_of l.fields) l.initial.out l.bytes l.field-index l.rest l.out
