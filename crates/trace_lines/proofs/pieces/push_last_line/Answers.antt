use Rattle.std.proofs.Common.{◌∙◌, sym, string_bytes}
use Rattle.trace_lines.proofs.PieceLines.{last_whole, last_stopped}
use Rattle.trace_lines.proofs.pieces.push_last_line.Goals as goal

pub returns-then-place-fed_len : goal.returns-then-place-fed_len
returns-then-place-fed_len c =
    last_whole c.args.decoder.now.state c.in-Some.field-0 (string_bytes c.push_whole_line.new.out)
    (string_bytes c.args.line.now) c.requires.waiting (sym c.version.ensures ∙ c.in-Some.is)
    (sym c.position-place.ensures ∙ c.if-place-fed_len.true ∙ c.fed_len.ensures) c.in_ok-push_whole_line.ensures
    c.requires.empty

pub returns : goal.returns
returns c =
    last_stopped
    c.requires.waiting
    (sym c.version.ensures ∙ c.in-Some.is) c.position-place.ensures
    (λ x. c.if-place-fed_len.false (c.position-place.ensures ∙ x ∙ sym c.fed_len.ensures))
    c.in_ok-push_stopped_line.ensures c.requires.empty
