use Rattle.std.proofs.Common.{arith}
use Rattle.trace_stats.proofs.TextsByTheirEnds.{word_is, word_bytes}
use Rattle.trace_stats.proofs.same.first_word.Goals as goal

pub returns-clause-number : goal.returns-clause-number
returns-clause-number c = word_is c.args.bytes.now _ c.requires c.from_le_bytes.ensures

pub returns-clause-bytes : goal.returns-clause-bytes
returns-clause-bytes c =
    word_bytes c.args.bytes.now _ c.requires (λ i. omega (arith, c.type_inv.bytes i))
    (word_is c.args.bytes.now _ c.requires c.from_le_bytes.ensures)
