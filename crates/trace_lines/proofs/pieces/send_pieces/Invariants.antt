use Rattle.trace_lines.proofs.DumpSoFar.{SentSoFar}
use Rattle.trace_lines.proofs.pieces.send_pieces.Given as goal

abbrev pub invariant-reads : goal.invariant-reads
invariant-reads g l = record {
  sent : SentSoFar (g.W.TraceWrite.told l.initial.out) (g.W.TraceWrite.told l.out)
      (g.R.Read.remaining l.initial.input) (g.R.Read.remaining l.input) l.decoder.state;
}
