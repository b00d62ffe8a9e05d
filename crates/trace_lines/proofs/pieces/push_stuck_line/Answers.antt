use Rattle.std.proofs.Common.{◌∙◌, ◌++◌, ℕ, ap, refl, string_bytes}
use Rattle.trace_lines.specs.Lines.{line, stopped_line}
use Rattle.trace_lines.proofs.pieces.push_stuck_line.Goals as goal

pub returns : goal.returns
returns c = (
  c.in-Some.field-0,
  c.in-Some.ensures,
  refl,
  c.in_ok-push_stopped_line.ensures
      ∙ ap (λ (n : ℕ). string_bytes c.args.line.now ++ line (stopped_line n)) c.position.ensures,
)
