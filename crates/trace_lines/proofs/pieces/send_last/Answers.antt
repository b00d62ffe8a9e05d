use Rattle.std.proofs.Common.{[], append-nil, arith, string_bytes, subst, sym}
use Rattle.trace_lines.specs.parts.PieceDumps.{IsLeft}
use Rattle.trace_lines.proofs.DumpsSentInParts.{sent_in_part, sent_nothing}
use Rattle.trace_lines.proofs.PieceLines.{both_fit, left_exists}
use Rattle.trace_lines.proofs.pieces.send_last.Goals as goal

pub returns-in_err-status : goal.returns-in_err-status
returns-in_err-status g c =
    let s = c.args.decoder.now.state in
    let left = left_exists s [] (both_fit s.kept [] c.requires.fed.fits (λ i. omega arith)) in
    sent_nothing _ _ c.from_residual.result left.status left.text c.from_residual.ensures.0 left.is

pub returns-in_err-send_all : goal.returns-in_err-send_all
returns-in_err-send_all g c =
    let s = c.args.decoder.now.state in
    let line = string_bytes c.push_last_line.new.line in
    let sent = rw c.as_bytes.ensures.value at c.in_err-send_all.ensures.fault in
    sent_in_part (IsLeft s []) c.from_residual-in_err-send_all.result c.in_err-send_all.field-0.0.accepted
    c.in_ok-status.status line [] c.from_residual-in_err-send_all.ensures.0
    (subst (IsLeft s [] c.in_ok-status.status) (sym (append-nil line)) c.in_ok-status.ensures) sent
