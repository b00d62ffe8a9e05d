use Rattle.std.proofs.lemmas.Result.{err_from_is_err_and}
use Rattle.trace_values.specs.Reading.{text_pair_at}
use Rattle.trace_lines.specs.Lines.{pair_text}
use Rattle.trace_lines.proofs.SpelledParts.{items_begin, items_end, items_go_on, items_stop, items_stop_first}
use Rattle.trace_lines.proofs.spelled.push_text_pairs_at.Goals as goal

pub pairs-init : goal.pairs-init
pairs-init g c =
    items_begin g.L.GrowingLine.grows text_pair_at pair_text c.args.count c.args.out.now c.args.bytes.now

pub pairs-preserved : goal.pairs-preserved
pairs-preserved g c =
    items_go_on text_pair_at g.met.L.GrowingLine.joins c.pairs-test.true c.pairs.invariant c.in_ok-put.ensures
    c.in_ok-rest.ensures

pub returns-in_err-put : goal.returns-in_err-put
returns-in_err-put g c =
    let p = err_from_is_err_and c.from_residual.result c.from_residual.ensures.1 in
    rw (p.1, p.2) (items_stop_first text_pair_at g.met.L.GrowingLine.stops c.pairs-test.true c.pairs.invariant
    c.in_err-put.ensures)

pub returns-in_err-rest : goal.returns-in_err-rest
returns-in_err-rest g c =
    let given = c.from_residual-in_err-rest in
    let p = err_from_is_err_and given.result given.ensures.1 in
    rw (p.1, p.2) (items_stop text_pair_at g.met.L.GrowingLine.joins g.met.L.GrowingLine.stops c.pairs-test.true
    c.pairs.invariant
    c.in_ok-put.ensures c.in_err-rest.ensures)

pub returns : goal.returns
returns g c =
    items_end text_pair_at c.args.count c.pairs.index c.args.bytes.now c.pairs.rest _ g.met.L.GrowingLine.empty
    c.pairs-test.false c.pairs.invariant
