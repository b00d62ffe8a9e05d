use Rattle.std.proofs.Common.{arith}
use Rattle.dial9_trace_format.proofs.PullingIsFeeding.{was_pushed}
use Rattle.trace_lines.proofs.PiecesGathered.{pushed_fed}
use Rattle.trace_lines.proofs.PiecesHeld.{counted_on, piece_held, piece_refused}
use Rattle.trace_lines.proofs.pieces.gather_piece.Goals as goal

pub gather_kept-requires : goal.gather_kept-requires
gather_kept-requires g c =
    let s = c.args.decoder.now.state in
    pushed_fed s c.push.new.self.state c.args.piece.now c.requires.fed (λ i. omega (arith, c.type_inv.piece i))
    (was_pushed s c.push.new.self.state c.args.piece.now c.in-Ok.field-0 c.in-Ok.ensures.pushes).2

pub returns-in_default-clause-gathers : goal.returns-in_default-clause-gathers
returns-in_default-clause-gathers g c =
    piece_refused g.W.TraceWrite.told c.args.lines.now c.args.decoder.now.state c.push.new.self.state
    c.args.piece.now c.requires.fed (λ i. omega (arith, c.type_inv.piece i))

pub returns-clause-gathers : goal.returns-clause-gathers
returns-clause-gathers g c =
    let s = c.args.decoder.now.state in
    piece_held g.W.TraceWrite.told c.args.lines.now c.gather_kept.new.lines s c.push.new.self.state
    c.gather_kept.new.decoder.state c.args.piece.now c.gather_kept.result
    (was_pushed s c.push.new.self.state c.args.piece.now c.in-Ok.field-0 c.in-Ok.ensures.pushes).2
    c.gather_kept.ensures.gathers

pub returns-clause-counts : goal.returns-clause-counts
returns-clause-counts g c =
    let s = c.args.decoder.now.state in
    let p = was_pushed s c.push.new.self.state c.args.piece.now c.in-Ok.field-0 c.in-Ok.ensures.pushes in
    counted_on s c.push.new.self.state c.gather_kept.new.decoder.state c.args.piece.now c.gather_kept.result p.1 p.2
    c.gather_kept.ensures.same
