use Rattle.trace_values.specs.Values.{texts}
use Rattle.trace_lines.proofs.SpelledParts.{closed, not_closed, not_filled, not_opened, puts_refused, puts_same}
use Rattle.trace_lines.proofs.SpelledParts.{texts_read, texts_shown}
use Rattle.trace_lines.proofs.spelled.push_texts_at.Goals as goal

pub returns-in_default : goal.returns-in_default
returns-in_default g c = puts_refused _ _ c.refusal.ensures

pub returns : goal.returns
returns g c =
    puts_same (texts_read c.args.bytes.now _ _ c.in-Ok.ensures)
    (not_opened texts _ _ _ texts_shown g.met.L.GrowingLine.stops c.in-Err-tri.ensures)

pub returns-2 : goal.returns-2
returns-2 g c =
    puts_same (texts_read c.args.bytes.now _ _ c.in-Ok.ensures)
    (not_filled texts _ _ _ texts_shown g.met.L.GrowingLine.joins g.met.L.GrowingLine.stops c.in-Ok-tri.ensures
    c.in-Err-tri-rest.ensures)

pub returns-3 : goal.returns-3
returns-3 g c =
    puts_same (texts_read c.args.bytes.now _ _ c.in-Ok.ensures)
    (not_closed texts _ _ _ _ texts_shown g.met.L.GrowingLine.joins c.in-Ok-tri.ensures c.in-Ok-tri-rest.ensures
    c.in-Err-tri-2.ensures)

pub returns-4 : goal.returns-4
returns-4 g c =
    puts_same (texts_read c.args.bytes.now _ _ c.in-Ok.ensures)
    (closed texts _ _ _ texts_shown g.met.L.GrowingLine.joins c.in-Ok-tri.ensures c.in-Ok-tri-rest.ensures
    c.in-Ok-tri-2.ensures)
