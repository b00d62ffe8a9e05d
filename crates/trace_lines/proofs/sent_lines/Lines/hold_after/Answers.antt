use Rattle.std.proofs.Common.{ℕ, List, ◌++◌, ap, ◌∙◌, string_bytes}
use Rattle.std.proofs.lemmas.Result.{err_from_is_err_and}
use Rattle.trace_lines.specs.Lines.{line}
use Rattle.trace_lines.specs.ResolvedLines.{resolved_line}
use Rattle.trace_lines.specs.parts.EventLines.{event_as}
use Rattle.trace_lines.specs.parts.LineLaws.{line_joins, line_stops}
use Rattle.trace_lines.proofs.SentParts.{text_fails, text_made, text_held, text_not_held}
use Rattle.trace_lines.proofs.sent_lines.Lines.hold_after.Goals as goal

pub returns-in_err-put : goal.returns-in_err-put
returns-in_err-put g c =
    let told = g.W.TraceWrite.told in
    let text = line (resolved_line (event_as g.V.FieldLine.value c.args.event.now)) in
    let p = err_from_is_err_and c.from_residual.result c.from_residual.ensures.1 in
    rw (p.1, p.2) (text_fails told c.args.self.now _ c.clear.new.self (c.args.start.now ++ text) _ c.clear.ensures.bytes
    (line_stops told _ _ c.args.start.now text _ c.in_err-put.ensures))

pub returns-in_err-push_event_in_full : goal.returns-in_err-push_event_in_full
returns-in_err-push_event_in_full g c =
    let told = g.W.TraceWrite.told in
    let text = line (resolved_line (event_as g.V.FieldLine.value c.args.event.now)) in
    let given = c.from_residual-in_err-push_event_in_full in
    let p = err_from_is_err_and given.result given.ensures.1 in
    rw (p.1, p.2) (text_fails told c.args.self.now _ c.clear.new.self (c.args.start.now ++ text) _ c.clear.ensures.bytes
    (line_joins told _ _ _ c.args.start.now text _ c.in_ok-put.ensures c.in_err-push_event_in_full.ensures))

pub returns : goal.returns
returns g c =
    let told = g.W.TraceWrite.told in
    let s = c.args.self.now in
    let m = c.push_event_in_full.new.out in
    let text = line (resolved_line (event_as g.V.FieldLine.value c.args.event.now)) in
    text_held told s m c.push_str.new.self (c.args.start.now ++ text)
    (text_made told s m c.clear.new.self (c.args.start.now ++ text) c.clear.ensures.bytes
    (line_joins told _ _ _ c.args.start.now text _ c.in_ok-put.ensures c.in_ok-push_event_in_full.ensures))
    (c.in_ok-push_str.ensures.bytes ∙ ap (λ (x : List ℕ). string_bytes m.held ++ x) c.deref.ensures)

pub returns-in_err-push_str : goal.returns-in_err-push_str
returns-in_err-push_str g c =
    let told = g.W.TraceWrite.told in
    let s = c.args.self.now in
    let m = c.push_event_in_full.new.out in
    let text = line (resolved_line (event_as g.V.FieldLine.value c.args.event.now)) in
    let given = c.from_residual-in_err-push_str in
    let p = err_from_is_err_and given.result given.ensures.1 in
    rw (p.1, p.2) (text_not_held told s m c.push_str.new.self (c.args.start.now ++ text)
    (text_made told s m c.clear.new.self (c.args.start.now ++ text) c.clear.ensures.bytes
    (line_joins told _ _ _ c.args.start.now text _ c.in_ok-put.ensures c.in_ok-push_event_in_full.ensures))
    c.in_err-push_str.ensures.bytes)
