use Rattle.std.proofs.Common.{◌≡◌, length, string_bytes}
use Rattle.dial9_trace_format.specs.Decoding.{rest_of}
use Rattle.trace_lines.specs.parts.Sent.{IsGoing, IsHeldDump}
use Rattle.trace_lines.proofs.DumpsSentInParts.{Sent}
use Rattle.trace_lines.proofs.dump.send_parts.Given as goal

abbrev pub invariant-parts : goal.invariant-parts
invariant-parts g l = record {
  same_writer : l.lines.out.ghost_name ≡ l.initial.lines.out.ghost_name;
  sent : Sent (g.W.TraceWrite.told l.initial.lines.out.now) (g.W.TraceWrite.told l.lines.out.now)
      (IsHeldDump l.form (string_bytes l.initial.lines.held) l.initial.decoder)
      (IsHeldDump l.form (string_bytes l.lines.held) l.decoder);
  going : IsGoing l.decoder;
}

abbrev pub decreases-parts : goal.decreases-parts
decreases-parts g l = length (rest_of l.decoder)
