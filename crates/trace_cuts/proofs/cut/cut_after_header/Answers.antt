use Rattle.std.proofs.Common.{◌-◌, ℕ, List, length, refl, ap, arith}
use Rattle.trace_cuts.proofs.WholeCuts.{has_header, whole_cut, rest_inside}
use Rattle.trace_cuts.proofs.cut.cut_after_header.Goals as goal

pub split_at-requires : goal.split_at-requires
split_at-requires c = has_header c.args.bytes.now c.requires.0 c.requires.1

pub overflow_sub-result : goal.overflow_sub-result
overflow_sub-result c =
    omega (
      arith,
      ap length c.into_parts-kept.ensures.rest,
      rest_inside c.args.range c.args.bytes.now _ _ _ _ _ c.split_at.ensures.back c.in_ok-copying.ensures
          c.in_ok-conflict.ensures,
    )

pub returns : goal.returns
returns c =
    whole_cut c.args.range c.args.bytes.now _ _ c.requires.1 (c.split_at.ensures.front, c.split_at.ensures.back)
    c.in_ok-copying.ensures c.in_ok-conflict.ensures (
      c.into_parts-kept.ensures.kept,
      ap (λ (l : List ℕ). length c.args.bytes.now - length l) c.into_parts-kept.ensures.rest,
    )
    refl
