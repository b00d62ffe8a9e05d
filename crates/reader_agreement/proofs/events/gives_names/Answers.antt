use Rattle.std.proofs.Common.{refl}
use Rattle.reader_agreement.proofs.SideBySide.{begins}
use Rattle.reader_agreement.proofs.events.gives_names.Goals as goal

pub loop-field-init : goal.loop-field-init
loop-field-init c = begins _ _ refl c.field_names-names.ensures
