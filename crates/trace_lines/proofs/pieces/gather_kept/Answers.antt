use Rattle.std.proofs.Common.{◌∙◌}
use Rattle.std.proofs.lemmas.Result.{err_from_is_err_and}
use Rattle.trace_lines.proofs.PiecesHeld.{last_held, next_refused, no_more_held, none_held, one_more_held}
use Rattle.trace_lines.proofs.pieces.gather_kept.Goals as goal

pub lines-init : goal.lines-init
lines-init g c = none_held g.W.TraceWrite.told c.args.lines.now c.args.decoder.now.state c.requires

pub lines-preserved : goal.lines-preserved
lines-preserved g c =
    (one_more_held g.W.TraceWrite.told c.hold_next.new.lines c.hold_next.new.decoder.state c.in-Line.is
    c.lines.invariant c.in_ok-hold_next.ensures.holds c.in_ok-hold_next.ensures.same).0

pub lines-smaller : goal.lines-smaller
lines-smaller g c =
    (one_more_held g.W.TraceWrite.told c.hold_next.new.lines c.hold_next.new.decoder.state c.in-Line.is
    c.lines.invariant c.in_ok-hold_next.ensures.holds c.in_ok-hold_next.ensures.same).1

pub returns-in_err-hold_next-clause-gathers : goal.returns-in_err-hold_next-clause-gathers
returns-in_err-hold_next-clause-gathers g c =
    let p = err_from_is_err_and c.from_residual.result c.from_residual.ensures.1 in
    rw (p.1, p.2) (next_refused g.W.TraceWrite.told c.hold_next.new.lines c.hold_next.new.decoder.state _
    c.lines.invariant
    c.in_err-hold_next.ensures.holds)

pub returns-in-Wait-clause-gathers : goal.returns-in-Wait-clause-gathers
returns-in-Wait-clause-gathers g c =
    no_more_held g.W.TraceWrite.told c.hold_next.new.lines c.hold_next.new.decoder.state c.in-Wait.is
    c.lines.invariant c.in_ok-hold_next.ensures.holds

pub returns-in-End-clause-gathers : goal.returns-in-End-clause-gathers
returns-in-End-clause-gathers g c =
    last_held g.W.TraceWrite.told c.hold_next.new.lines c.hold_next.new.decoder.state c.in-End.status c.in-End.is
    c.lines.invariant c.in_ok-hold_next.ensures.holds

pub returns-in-Wait-clause-same : goal.returns-in-Wait-clause-same
returns-in-Wait-clause-same g c = c.in_ok-hold_next.ensures.same ∙ c.lines.invariant.counted

pub returns-in-End-clause-same : goal.returns-in-End-clause-same
returns-in-End-clause-same g c = c.in_ok-hold_next.ensures.same ∙ c.lines.invariant.counted
