use Rattle.std.proofs.Common.{◌≡◌, ◌++◌, take}
use Rattle.trace_page.specs.Escaping.{escaped}
use Rattle.trace_page.proofs.escaping.push_escaped.Given as goal

abbrev pub invariant-bytes : goal.invariant-bytes
invariant-bytes l = l.out.items ≡ l.initial.out.items ++ escaped (take l.byte-index l.text)
