use Rattle.std.proofs.Common.{refl, ap, ◌∙◌}
use Rattle.std.proofs.lemmas.List.{map_push}
use Rattle.trace_values.specs.Refs.{ref_view, ref_pair_views}
use Rattle.trace_values.proofs.CopyLoops.{both}
use Rattle.trace_values.proofs.NotNested.{flat_ref}
use Rattle.trace_values.proofs.types.ref_copying.push_other_pair.Goals as goal

pub returns-in_default-1₀ : goal.returns-in_default-1₀
returns-in_default-1₀ c =
    let key = c.copy_of_flat_ref.ensures ∙ flat_ref c.args.pair.now.0 c.in_default.not-List c.in_default.not-Map in
    let value = c.copy_of_flat_ref-in_default-1₀.ensures
    ∙ flat_ref c.args.pair.now.1 c.in_default-1₀.not-List c.in_default-1₀.not-Map in
    record {
      put = λ _. record {
        copied = ap ref_pair_views c.push_reserved.ensures.items
            ∙ rw (
              map_push (both ref_view) c.args.copies.now.items
                  (c.copy_of_flat_ref.result, c.copy_of_flat_ref-in_default-1₀.result),
              key,
              value,
            ) refl;
        one_more = c.push_reserved.ensures.len;
        same_room = c.push_reserved.ensures.capacity;
      };
      left = λ e. absurd cc;
    }
