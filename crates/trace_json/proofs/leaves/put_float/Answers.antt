use Rattle.trace_json.proofs.Floats.{numeral_put, special_put}
use Rattle.trace_json.proofs.leaves.put_float.Goals as goal

pub returns-then-is_finite-clause-tokens : goal.returns-then-is_finite-clause-tokens
returns-then-is_finite-clause-tokens c =
    numeral_put c.float.result c.args.bits c.f64_from_bits_with_nan-float.result c.is_finite.result _ _
    c.f64_from_bits_with_nan-float.ensures c.is_finite.ensures.value c.if-is_finite.true c.float.ensures.plain

pub returns-else-is_finite-clause-tokens : goal.returns-else-is_finite-clause-tokens
returns-else-is_finite-clause-tokens c =
    special_put c.put_special.result c.args.bits c.f64_from_bits_with_nan-float.result c.is_finite.result _ _
    c.f64_from_bits_with_nan-float.ensures c.is_finite.ensures.value c.if-is_finite.false c.put_special.ensures.tokens
