use Rattle.std.proofs.Common.{Bool, ◌&&◌, List, [], ◌++◌, refl, sym, ap, ap₂, ◌∙◌}
use Rattle.std.proofs.lemmas.List.{append-nil}
use Rattle.trace_wire.specs.Schemas.{Annotation, Entry, is_entry_too_long}
use Rattle.trace_wire.specs.WireTypes.{entry_of}
use Rattle.trace_batch.proofs.TooLong.{by_parts, new_schema, known_schema, known_notes, no_notes}
use Rattle.trace_batch.proofs.taking.tells_too_long.Goals as goal

pub returns-then-same : goal.returns-then-same
returns-then-same c =
    let b = c.is_too_long_with.result in
    let known = c.in-Some.known.now in
    let long = by_parts b c.in-Schema.wire_type.shape c.annotations.result.now [] c.is_too_long_with.ensures
    c.entry.ensures
    (append-nil c.annotations.result.now ∙ c.annotations.ensures
    ∙ ap (λ (e : Entry). e.annotations) c.entry-then-same.ensures) in
    rw c.in-Schema.is (ap (λ (x : Bool). x && b) (sym c.if-same.true ∙ c.has_same_fields-same.ensures)
    ∙ known_schema c.args.grammar.now c.in-Schema.type_id.0 c.in-Schema.wire_type.shape known b c.in-Some.ensures long)

pub returns-else-same : goal.returns-else-same
returns-else-same c =
    let known = c.in-Some.known.now in
    let b : Bool = is_entry_too_long (entry_of (record {
      shape = c.in-Schema.wire_type.shape;
      annotations = known.annotations;
    })) in
    rw c.in-Schema.is (c.if-same.false
    ∙ ap (λ (x : Bool). x && b) (sym c.if-same.false ∙ c.has_same_fields-same.ensures)
    ∙ known_schema c.args.grammar.now c.in-Schema.type_id.0 c.in-Schema.wire_type.shape known b c.in-Some.ensures refl)

pub returns-in-None : goal.returns-in-None
returns-in-None c =
    rw c.in-Schema.is (new_schema c.args.grammar.now c.in-Schema.type_id.0 c.in-Schema.wire_type.shape
    c.is_too_long_with-in-None.result c.in-None.ensures
    (by_parts c.is_too_long_with-in-None.result c.in-Schema.wire_type.shape [] [] c.is_too_long_with-in-None.ensures
    c.entry-in-None.ensures refl))

pub returns-in-Some-wire_type : goal.returns-in-Some-wire_type
returns-in-Some-wire_type c =
    let known = c.in-Some-wire_type.known.now in
    let b = c.is_too_long_with-in-Some-wire_type.result in
    let long = by_parts b known.shape c.annotations-in-Some-wire_type.result.now c.deref.result.now
    c.is_too_long_with-in-Some-wire_type.ensures c.entry-in-Some-wire_type.ensures
    (ap₂ (λ (x y : List Annotation). x ++ y)
    (c.annotations-in-Some-wire_type.ensures ∙ ap (λ (e : Entry). e.annotations) c.entry-in-Some-wire_type-2.ensures)
    c.deref.ensures.value) in
    rw c.in-Annotations.is (known_notes c.args.grammar.now c.in-Annotations.type_id.0 c.in-Annotations.entries.items
    known b c.in-Some-wire_type.ensures long)

pub returns-in-None-wire_type : goal.returns-in-None-wire_type
returns-in-None-wire_type c =
    rw c.in-Annotations.is (no_notes c.args.grammar.now c.in-Annotations.type_id.0 c.in-Annotations.entries.items
    c.in-None-wire_type.ensures)
