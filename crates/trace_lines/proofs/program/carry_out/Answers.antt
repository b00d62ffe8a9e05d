use Rattle.std.proofs.Common.{◌≡◌, ◌∙◌, refl, [], inl, arith, le_refl, subst, sym}
use Rattle.trace_values.proofs.TwoStepsOfWriter.{TookOnly-none}
use Rattle.trace_lines.specs.declared.program.Task.{Task}
use Rattle.trace_lines.specs.declared.program.Task.TheVariants.{Dump, Resolve}
use Rattle.trace_lines.specs.parts.Program.{resolves, DumpsFront}
use Rattle.trace_lines.specs.Program.{DumpsAll}
use Rattle.trace_lines.proofs.DumpSoFar.{nothing_dumped}
use Rattle.trace_lines.proofs.program.carry_out.Goals as goal

pub returns-in-Usage : goal.returns-in-Usage
returns-in-Usage g c = record {
  asked = λ no_dump no_resolve. refl;
  same_reader = λ no_dump no_resolve. refl;
  same_writer = λ no_dump no_resolve. refl;
  front = λ no_dump failed bytes e. ([], inl refl, [], omega arith, TookOnly-none _);
  front_of_bytes = λ dump failed. nothing_dumped _ _;
  lines = λ fine. absurd (fine refl);
  settled = λ fine. absurd (fine refl);
  known = le_refl _;
}

pub returns-in-Dump : goal.returns-in-Dump
returns-in-Dump g c = record {
  asked = λ no_dump no_resolve. absurd (no_dump c.in-Dump.is);
  same_reader = λ no_dump no_resolve. absurd (no_dump c.in-Dump.is);
  same_writer = λ no_dump no_resolve. absurd (no_dump c.in-Dump.is);
  front = λ no_dump failed. absurd (no_dump c.in-Dump.is);
  front_of_bytes = λ dump failed. c.dump_pieces.ensures.front failed;
  lines = λ fine.
      subst (λ (t : Task). DumpsAll (resolves t) (g.R.Read.remaining c.args.input.now)
      (g.W.TraceWrite.told c.args.out.now) (g.W.TraceWrite.told c.dump_pieces.new.out) c.dump_pieces.result)
      (sym c.in-Dump.is) (c.dump_pieces.ensures.lines fine);
  settled = λ fine. c.dump_pieces.ensures.settled fine;
  known = c.dump_pieces.ensures.known;
}

pub returns-in-Resolve : goal.returns-in-Resolve
returns-in-Resolve g c = record {
  asked = λ no_dump no_resolve. absurd (no_resolve c.in-Resolve.is);
  same_reader = λ no_dump no_resolve. absurd (no_resolve c.in-Resolve.is);
  same_writer = λ no_dump no_resolve. absurd (no_resolve c.in-Resolve.is);
  front = λ no_dump failed.
      subst (λ (t : Task). DumpsFront (resolves t) (g.R.Read.remaining c.args.input.now)
      (g.W.TraceWrite.told c.args.out.now) (g.W.TraceWrite.told c.dump_events.new.out))
      (sym c.in-Resolve.is) (c.dump_events.ensures.front failed);
  front_of_bytes = λ dump failed. absurd (let x : Dump ≡ Resolve = sym dump ∙ c.in-Resolve.is in cc);
  lines = λ fine.
      subst (λ (t : Task). DumpsAll (resolves t) (g.R.Read.remaining c.args.input.now)
      (g.W.TraceWrite.told c.args.out.now) (g.W.TraceWrite.told c.dump_events.new.out) c.dump_events.result)
      (sym c.in-Resolve.is) (c.dump_events.ensures.lines fine);
  settled = λ fine. c.dump_events.ensures.settled fine;
  known = c.dump_events.ensures.known;
}
