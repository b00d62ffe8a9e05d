use Rattle.std.proofs.Common.{◌∙◌}
use Rattle.trace_values.proofs.NotNested.{flat_owned}
use Rattle.trace_values.proofs.types.owning.flat_owned.Goals as goal

pub returns-in_ok-owned_flat-in_default : goal.returns-in_ok-owned_flat-in_default
returns-in_ok-owned_flat-in_default c = c.in_ok-owned_flat-in_default.ensures
    ∙ flat_owned c.args.value.now c.in_default.not-List c.in_default.not-Map
