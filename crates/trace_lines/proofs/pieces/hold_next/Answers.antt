use Rattle.std.proofs.Common.{ℕ, List, ◌++◌, ap, ◌∙◌, string_bytes}
use Rattle.std.proofs.lemmas.Result.{err_from_is_err_and}
use Rattle.trace_lines.proofs.PiecesHeld.{next_fails, next_held, next_not_held}
use Rattle.trace_lines.proofs.pieces.hold_next.Goals as goal

pub returns-in_err-next-clause-holds : goal.returns-in_err-next-clause-holds
returns-in_err-next-clause-holds g c =
    let p = err_from_is_err_and c.from_residual.result c.from_residual.ensures.1 in
    rw (p.1, p.2) (next_fails g.W.TraceWrite.told c.args.lines.now c.put_next.new.lines c.clear.new.self
    c.args.decoder.now.state
    c.put_next.new.decoder.state _ (c.clear.ensures.bytes, c.in_err-next.ensures.puts))

pub returns-clause-holds : goal.returns-clause-holds
returns-clause-holds g c =
    let m = c.put_next.new.lines in
    next_held g.W.TraceWrite.told c.args.lines.now m c.clear.new.self c.push_str.new.self c.args.decoder.now.state
    c.put_next.new.decoder.state _ (c.clear.ensures.bytes, c.in_ok-next.ensures.puts)
    (c.in_ok-push_str.ensures.bytes ∙ ap (λ (x : List ℕ). string_bytes m.held ++ x) c.deref.ensures)

pub returns-in_err-push_str-clause-holds : goal.returns-in_err-push_str-clause-holds
returns-in_err-push_str-clause-holds g c =
    let given = c.from_residual-in_err-push_str in
    let p = err_from_is_err_and given.result given.ensures.1 in
    rw (p.1, p.2) (next_not_held g.W.TraceWrite.told c.args.lines.now c.put_next.new.lines c.clear.new.self
    c.push_str.new.self
    c.args.decoder.now.state c.put_next.new.decoder.state _ (c.clear.ensures.bytes, c.in_ok-next.ensures.puts)
    c.in_err-push_str.ensures.bytes)

pub returns-clause-same : goal.returns-clause-same
returns-clause-same g c = c.in_ok-next.ensures.same
