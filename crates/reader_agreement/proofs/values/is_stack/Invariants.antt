use Rattle.std.proofs.Common.{◌≡◌, drop}
use Rattle.trace_values.specs.RawViews.{addresses_left, stack_view}
use Rattle.reader_agreement.proofs.SideBySide.{LeftAlike}
use Rattle.reader_agreement.proofs.values.is_stack.Given as goal

abbrev pub invariant-loop-address : goal.invariant-loop-address
invariant-loop-address l = LeftAlike (l.addresses ≡ stack_view l.stack) (drop l.address-index l.addresses)
    (addresses_left l.others)
