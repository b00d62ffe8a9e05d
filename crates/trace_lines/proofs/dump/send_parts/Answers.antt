use Rattle.std.proofs.Common.{◌++◌, subst, ◌∙◌, string_bytes}
use Rattle.trace_lines.specs.parts.Sent.{Gathers, IsHeldDump}
use Rattle.trace_lines.proofs.DumpsSentInParts.{more_sent, all_sent, sent_in_part}
use Rattle.trace_lines.proofs.HeldLines.{gathered_fronts, held_goes_on, last_part, front_part}
use Rattle.trace_lines.proofs.HeldLines.{after_front, front_sent_before, regrouped, failed_before}
use Rattle.trace_lines.proofs.dump.send_parts.Goals as goal

pub returns-in_err-gathered-clause-sends : goal.returns-in_err-gathered-clause-sends
returns-in_err-gathered-clause-sends g c =
    let r = c.from_residual in
    all_sent _ r.result c.parts.invariant.sent
    (failed_before (IsHeldDump c.args.form (string_bytes c.parts.lines.held) c.parts.decoder) r.result r.ensures.0
    c.in_err-gathered.ensures.gathered)

pub returns-in_err-send_all-clause-sends : goal.returns-in_err-send_all-clause-sends
returns-in_err-send_all-clause-sends g c =
    let r = c.from_residual-in_err-send_all in
    let dump = IsHeldDump c.args.form (string_bytes c.parts.lines.held) c.parts.decoder in
    let on = c.in_ok-gathered.ensures.gathered in
    let text = string_bytes c.gather.new.lines.held in
    let front = gathered_fronts c.args.form _ _ (string_bytes c.parts.lines.held) (on.0 ++ text) _ on.2 in
    let sent = rw c.as_bytes.ensures.value at c.in_err-send_all.ensures.fault in
    all_sent _ r.result (front_sent_before c.parts.invariant.sent on.1)
    (sent_in_part (after_front dump on.0) r.result c.in_err-send_all.field-0.0.accepted front.0 text front.1
    r.ensures.0 (regrouped dump front.0 on.0 text front.1 front.2) sent)

pub returns-in-All-clause-sends : goal.returns-in-All-clause-sends
returns-in-All-clause-sends g c =
    let before = string_bytes c.parts.lines.held in
    let on = c.in_ok-gathered.ensures.gathered in
    let text = string_bytes c.gather.new.lines.held in
    let gathered =
    subst (Gathers c.args.form c.parts.decoder c.gather.new.decoder before (on.0 ++ text)) c.in-All.is on.2 in
    last_part _ (front_sent_before c.parts.invariant.sent on.1) gathered
    (rw c.as_bytes.ensures.value at c.in_ok-send_all.ensures.all)

pub parts-preserved : goal.parts-preserved
parts-preserved g c =
    let before = string_bytes c.parts.lines.held in
    let dump = IsHeldDump c.args.form before c.parts.decoder in
    let on = c.in_ok-gathered.ensures.gathered in
    let text = string_bytes c.gather.new.lines.held in
    let gathered =
    subst (Gathers c.args.form c.parts.decoder c.gather.new.decoder before (on.0 ++ text)) c.in-Enough.is
    on.2 in
    let sent = rw c.as_bytes.ensures.value at c.in_ok-send_all.ensures.all in
    record {
      same_writer = c.in_ok-gathered.ensures.same_writer ∙ c.parts.invariant.same_writer;
      sent = more_sent _ (front_sent_before c.parts.invariant.sent on.1) sent
          (λ status rest d. regrouped dump status on.0 text rest
          (held_goes_on before c.clear.ensures.bytes gathered.1 gathered.2 status rest d));
      going = gathered.2.going;
    }

pub returns-in-OutOfMemory-clause-sends : goal.returns-in-OutOfMemory-clause-sends
returns-in-OutOfMemory-clause-sends g c =
    let before = string_bytes c.parts.lines.held in
    let dump = IsHeldDump c.args.form before c.parts.decoder in
    let on = c.in_ok-gathered.ensures.gathered in
    let text = string_bytes c.gather.new.lines.held in
    let gathered =
    subst (Gathers c.args.form c.parts.decoder c.gather.new.decoder before (on.0 ++ text))
    c.in-OutOfMemory.is on.2 in
    let sent = rw c.as_bytes.ensures.value at c.in_ok-send_all.ensures.all in
    front_part gathered.0 gathered.1 (front_sent_before c.parts.invariant.sent on.1)
    (regrouped dump gathered.0 on.0 text gathered.1 gathered.2) sent
