use Rattle.trace_stats.proofs.TextsByTheirEnds.{last_tells}
use Rattle.trace_stats.proofs.same.is_same_text.Goals as goal

pub returns : goal.returns
returns c =
    last_tells c.args.one.now c.args.other.now _ _ _ _
    (record { alike = c.if-length-other.false; least = c.if-length-lt-WORD.false; most = c.if-length.false })
    (record {
      one = record { number = c.first_word.ensures.number; bytes = c.first_word.ensures.bytes };
      other = record { number = c.first_word-2.ensures.number; bytes = c.first_word-2.ensures.bytes };
      same = c.if-first_word.false;
    })
    (record { number = c.first_word-3.ensures.number; bytes = c.first_word-3.ensures.bytes })
    (record { number = c.first_word-4.ensures.number; bytes = c.first_word-4.ensures.bytes })
