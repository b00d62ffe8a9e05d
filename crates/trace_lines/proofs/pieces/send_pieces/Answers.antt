use Rattle.std.proofs.Common.{arith}
use Rattle.trace_lines.proofs.PieceLines.{new_waits}
use Rattle.trace_lines.proofs.DumpSoFar.{nothing_sent, nothing_read, read_none, read_to_end, piece_failed}
use Rattle.trace_lines.proofs.DumpSoFar.{piece_ends, piece_goes_on, front_so_far}
use Rattle.trace_lines.proofs.pieces.send_pieces.Goals as goal
use Rattle.trace_lines.proofs.pieces.send_pieces.Goals.{in-Ok+in_ok-status-in-Ok+in_default, in-Err+else-ne}

pub reads-init : goal.reads-init
reads-init g c = record {
  sent = nothing_sent _ _ c.args.decoder.now.state c.requires (new_waits c.args.decoder.now.state c.requires);
}

pub returns-in-Ok-eq0 : goal.returns-in-Ok-eq0
returns-in-Ok-eq0 g c =
    read_to_end _ _ c.send_last.result c.reads.invariant.sent
    (read_none _ _ _ c.in-Ok-eq0.field-0 (omega (arith, c.in-Ok-eq0.field-0-test)) (omega (arith, c.read.auto.buf))
    c.in-Ok-eq0.ensures.bytes)
    c.send_last.ensures

pub returns-in_err-status-in-Ok : goal.returns-in_err-status-in-Ok
returns-in_err-status-in-Ok g c =
    piece_failed _ c.send_piece.new.decoder.state _ _ c.in_err-status-in-Ok.field-0 c.from_residual.result
    c.from_residual.ensures.0
    c.reads.invariant.sent c.in-Ok.ensures.bytes.0 c.in_err-status-in-Ok.ensures.sends

pub returns-in-Some : goal.returns-in-Some
returns-in-Some g c =
    piece_ends _ c.send_piece.new.decoder.state _ _ c.in-Some.is
    c.reads.invariant.sent
    c.in-Ok.ensures.bytes.0 c.in_ok-status-in-Ok.ensures.counts c.in_ok-status-in-Ok.ensures.sends

pub returns-then-ne : goal.returns-then-ne
returns-then-ne g c = front_so_far (nothing_read _ c.reads.invariant.sent c.in-Err.ensures.bytes)

pub reads-preserved : goal.reads-preserved
reads-preserved g c = elim c.match-read.branch [
  | in-Ok+in_ok-status-in-Ok+in_default w ↦ record {
    sent = rw (w.out-is, w.decoder-is)
        (piece_goes_on _ _ _ _ w.in_ok-status-in-Ok.field-0 w.in_default.is c.reads.invariant.sent
        w.in-Ok.ensures.bytes.0 w.in_ok-status-in-Ok.ensures.counts w.in_ok-status-in-Ok.ensures.sends);
  }
  | in-Err+else-ne w ↦ record {
    sent = rw (w.out-is, w.decoder-is) (nothing_read _ c.reads.invariant.sent w.in-Err.ensures.bytes);
  }
]

pub returns : goal.returns
returns g c = front_so_far c.reads.invariant.sent
