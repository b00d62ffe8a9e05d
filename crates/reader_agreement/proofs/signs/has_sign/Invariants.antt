use Rattle.std.proofs.Common.{◌≡◌, drop}
use Rattle.reader_agreement.specs.Signs.{has_sign}
use Rattle.reader_agreement.proofs.signs.has_sign.Given as goal

abbrev pub invariant-loop-i : goal.invariant-loop-i
invariant-loop-i l = has_sign (drop l.i l.bytes) ≡ has_sign l.bytes
