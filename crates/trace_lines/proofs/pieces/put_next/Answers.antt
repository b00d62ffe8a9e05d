use Rattle.std.proofs.Common.{◌≡◌, OnOk, string_bytes, subst}
use Rattle.std.proofs.lemmas.Result.{err_from_is_err_and}
use Rattle.dial9_trace_format.specs.Feeding.{Fed}
use Rattle.trace_lines.specs.parts.PieceDumps.{AreNextLines}
use Rattle.trace_lines.proofs.PiecesHeld.{event_put_then, lines_put, lines_refused, nothing_more, nothing_sent}
use Rattle.trace_lines.proofs.pieces.put_next.Goals as goal

pub returns-in-Some-clause-puts : goal.returns-in-Some-clause-puts
returns-in-Some-clause-puts g c =
    event_put_then g.W.TraceWrite.told c.args.lines.now c.put_event.new.line {old = c.args.decoder.now}
    c.put_event.new.decoder.state c.in-Some.event c.put_event.result c.large_event.ensures.same c.in-Some.ensures.whole
    c.requires.fed c.put_event.ensures.puts

pub returns-in_err-next-in-None-clause-puts : goal.returns-in_err-next-in-None-clause-puts
returns-in_err-next-in-None-clause-puts g c =
    let p = err_from_is_err_and c.from_residual.result c.from_residual.ensures.1 in
    rw (p.1, p.2) (lines_refused g.W.TraceWrite.told c.args.lines.now c.push_next_lines.new.line
    c.args.decoder.now.state c.push_next_lines.new.decoder.state c.requires.fed)

pub returns-in_err-put_on-in-None-clause-puts : goal.returns-in_err-put_on-in-None-clause-puts
returns-in_err-put_on-in-None-clause-puts g c =
    let given = c.from_residual-in_err-put_on-in-None in
    let p = err_from_is_err_and given.result given.ensures.1 in
    let told = g.W.TraceWrite.told in
    let lines = c.args.lines.now in
    let l = c.push_next_lines.new.line in
    let old = c.args.decoder.now.state in
    let new = c.push_next_lines.new.decoder.state in
    let are = subst (λ (f : Fed). AreNextLines f.state new (string_bytes l) c.in_ok-next-in-None.next)
    c.large_event.ensures.same c.in_ok-next-in-None.ensures.lines in
    rw (p.1, p.2) (nothing_sent told lines (record lines { line = l }) c.put_on.new.self old new
    c.in_ok-next-in-None.next _ (lines_put told lines l old new c.in_ok-next-in-None.next c.requires.empty are)
    c.in_err-put_on-in-None.ensures)

pub returns-in_ok-put_on-in-None-clause-puts : goal.returns-in_ok-put_on-in-None-clause-puts
returns-in_ok-put_on-in-None-clause-puts g c =
    let told = g.W.TraceWrite.told in
    let lines = c.args.lines.now in
    let l = c.push_next_lines.new.line in
    let old = c.args.decoder.now.state in
    let new = c.push_next_lines.new.decoder.state in
    let are = subst (λ (f : Fed). AreNextLines f.state new (string_bytes l) c.in_ok-next-in-None.next)
    c.large_event.ensures.same c.in_ok-next-in-None.ensures.lines in
    nothing_more told lines (record lines { line = l }) c.put_on.new.self old new c.in_ok-next-in-None.next
    (lines_put told lines l old new c.in_ok-next-in-None.next c.requires.empty are) c.in_ok-put_on-in-None.ensures

pub returns-in-Some-clause-same : goal.returns-in-Some-clause-same
returns-in-Some-clause-same g c =
    let new = c.put_event.new.decoder.state in
    subst (λ (f : Fed). OnOk c.put_event.result (new.fed_len ≡ f.state.fed_len)) c.large_event.ensures.same
    c.put_event.ensures.same

pub returns-in_ok-put_on-in-None-clause-same : goal.returns-in_ok-put_on-in-None-clause-same
returns-in_ok-put_on-in-None-clause-same g c =
    let new = c.push_next_lines.new.decoder.state in
    subst (λ (f : Fed). new.fed_len ≡ f.state.fed_len) c.large_event.ensures.same
    c.in_ok-next-in-None.ensures.same
