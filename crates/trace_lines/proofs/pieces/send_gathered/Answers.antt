use Rattle.trace_lines.proofs.PiecesHeld.{all_not_sent, all_sent, failed_sending, some_not_sent, some_sent}
use Rattle.trace_lines.proofs.PiecesHeld.{writer_failed}
use Rattle.trace_lines.proofs.pieces.send_gathered.Goals as goal

pub returns-in_err-send_all-in-Ok-clause-sends : goal.returns-in_err-send_all-in-Ok-clause-sends
returns-in_err-send_all-in-Ok-clause-sends g c =
    let old = c.args.decoder.now.state in
    let new = c.gather_piece.new.decoder.state in
    failed_sending old new c.args.piece.now c.from_residual.result c.from_residual.ensures.0
    (all_not_sent g.W.TraceWrite.told c.args.lines.now c.gather_piece.new.lines old new c.args.piece.now c.in-Ok.end
    c.requires.empty c.in-Ok.ensures.gathers (
      _,
      c.in_err-send_all-in-Ok.field-0.0.accepted,
      rw c.as_bytes.ensures.value at c.in_err-send_all-in-Ok.ensures.fault,
    ))

pub returns-in_ok-send_all-in-Ok-clause-sends : goal.returns-in_ok-send_all-in-Ok-clause-sends
returns-in_ok-send_all-in-Ok-clause-sends g c =
    all_sent g.W.TraceWrite.told c.args.lines.now c.gather_piece.new.lines c.args.decoder.now.state
    c.gather_piece.new.decoder.state c.args.piece.now c.in-Ok.end c.requires.empty c.in-Ok.ensures.gathers
    (rw c.as_bytes.ensures.value at c.in_ok-send_all-in-Ok.ensures.all)

pub returns-in_err-send_all-in-Err-OutOfMemory-clause-sends :
    goal.returns-in_err-send_all-in-Err-OutOfMemory-clause-sends
returns-in_err-send_all-in-Err-OutOfMemory-clause-sends g c =
    let old = c.args.decoder.now.state in
    let new = c.gather_piece.new.decoder.state in
    failed_sending old new c.args.piece.now c.from_residual-in_err-send_all-in-Err-OutOfMemory.result
    c.from_residual-in_err-send_all-in-Err-OutOfMemory.ensures.0
    (some_not_sent g.W.TraceWrite.told c.args.lines.now c.gather_piece.new.lines old new c.args.piece.now
    c.requires.empty (rw c.in-Err-OutOfMemory.field-0-is at c.in-Err-OutOfMemory.ensures.gathers) (
      _,
      c.in_err-send_all-in-Err-OutOfMemory.field-0.0.accepted,
      rw c.as_bytes-in-Err-OutOfMemory.ensures.value at c.in_err-send_all-in-Err-OutOfMemory.ensures.fault,
    ))

pub returns-in_ok-send_all-in-Err-OutOfMemory-clause-sends :
    goal.returns-in_ok-send_all-in-Err-OutOfMemory-clause-sends
returns-in_ok-send_all-in-Err-OutOfMemory-clause-sends g c =
    some_sent g.W.TraceWrite.told c.args.lines.now c.gather_piece.new.lines c.args.decoder.now.state
    c.gather_piece.new.decoder.state c.args.piece.now c.requires.empty
    (rw c.in-Err-OutOfMemory.field-0-is at c.in-Err-OutOfMemory.ensures.gathers)
    (rw c.as_bytes-in-Err-OutOfMemory.ensures.value at c.in_ok-send_all-in-Err-OutOfMemory.ensures.all)

pub returns-in-Err-Unsent-clause-sends : goal.returns-in-Err-Unsent-clause-sends
returns-in-Err-Unsent-clause-sends g c =
    writer_failed g.W.TraceWrite.told c.args.lines.now c.gather_piece.new.lines c.args.decoder.now.state
    c.gather_piece.new.decoder.state c.args.piece.now c.requires.empty
    (rw c.in-Err-Unsent.field-0-is at c.in-Err-Unsent.ensures.gathers)

pub returns-in_ok-send_all-in-Ok-clause-counts : goal.returns-in_ok-send_all-in-Ok-clause-counts
returns-in_ok-send_all-in-Ok-clause-counts g c = c.in-Ok.ensures.counts
