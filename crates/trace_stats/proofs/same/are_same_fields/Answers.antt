use Rattle.std.proofs.Common.{refl, arith}
use Rattle.std.specs.Cmp.Lexicographic.{pointwise}
use Rattle.trace_values.proofs.CompareLoops.{same_so_far, one_differs, all_same}
use Rattle.trace_wire.specs.Schemas.{same_field}
use Rattle.trace_stats.proofs.TextsByTheirEnds.{fields_apart}
use Rattle.trace_stats.proofs.same.are_same_fields.Goals as goal

pub returns-then-one-other : goal.returns-then-one-other
returns-then-one-other c =
    fields_apart c.args.one.now c.args.other.now (λ e. omega (arith, c.if-one-other.true, e))

pub fields-init : goal.fields-init
fields-init c = refl

pub fields-preserved : goal.fields-preserved
fields-preserved c =
    same_so_far (pointwise same_field) same_field (λ _ _ _ _. refl) c.args.one.now c.args.other.now c.fields.index
    (record {
      inside = c.fields-test.true;
      alike = c.if-one-other.false;
      first = c.index-one-index.is;
      second = c.index-other-index.is;
      tells = c.is_same_field.ensures;
    })
    c.fields.invariant c.if-not-is_same_field.false

pub returns-then-not-is_same_field : goal.returns-then-not-is_same_field
returns-then-not-is_same_field c =
    one_differs (pointwise same_field) same_field (λ _ _ _ _. refl) c.args.one.now c.args.other.now c.fields.index
    (record {
      inside = c.fields-test.true;
      alike = c.if-one-other.false;
      first = c.index-one-index.is;
      second = c.index-other-index.is;
      tells = c.is_same_field.ensures;
    })
    c.fields.invariant c.if-not-is_same_field.true

pub returns : goal.returns
returns c =
    all_same (pointwise same_field) refl c.args.one.now c.args.other.now c.fields.index _ c.fields-test.false
    c.if-one-other.false c.fields.invariant
