use Rattle.std.proofs.Common.{rules, ◌≡◌, ◌+◌, ◌∷◌, ◌++◌, ap, sym, subst, string_bytes, List, take, arith, [], ◌∙◌}
use Rattle.std.proofs.lemmas.List.{take_more, take_all}
use Rattle.trace_recordings.specs.declared.script.call.ScriptCall.{ScriptCall}
use Rattle.trace_recordings.specs.Playing.{TurnsEach, playing_of, start}
use Rattle.trace_recordings.proofs.ScriptTurns.{TurnsEach-append, written_by}
use Rattle.std.specs.List.{AllByRecursion}
use Rattle.trace_recordings.specs.Refusals.{IsHad, RefusesScript}
use Rattle.trace_recordings.specs.Scripts.{IsScript}
use Rattle.trace_recordings.proofs.ScriptRefusals.{StandsAt, not_made}
use Rattle.trace_recordings.proofs.player.play.Goals as goal

pub loop-before-preserved : goal.loop-before-preserved
loop-before-preserved c =
    let i = c.loop-before.before in
    let call = c.call-item.result in
    let calls : take (i + 1) c.deref-call-items.result.now ≡ take i c.deref-call-items.result.now ++ call ∷ [] =
    take_more c.deref-call-items.result.now i call (omega arith)
    ∙ ap (λ x. take i c.deref-call-items.result.now ++ x ∷ []) (sym c.call-item.is) in
    rw calls (TurnsEach-append _ _ _ _ _ c.loop-before.invariant c.in_ok-make.ensures.turns)

pub returns-clause-played : goal.returns-clause-played
returns-clause-played c =
    let all : take c.loop-before.before c.deref-call-items.result.now ≡ c.deref-call-items.result.now =
    take_all c.loop-before.before c.deref-call-items.result.now (omega (arith, c.loop-before-test.false)) in
    let played =
    subst (λ (calls : List ScriptCall). TurnsEach start calls (playing_of c.loop-before.player))
    (all ∙ c.deref-call-items.ensures.value) c.loop-before.invariant in
    record {
      calls = c.in_ok-script.script.items;
      script = c.in_ok-script.ensures.read;
      last = playing_of c.loop-before.player;
      turns = played;
      written = λ plain. written_by c.fresh_headline.ensures _ _ played plain;
      same_bytes = ap (λ p. p.bytes.items) c.into_played.ensures;
      same_replies = ap (λ p. string_bytes p.replies) c.into_played.ensures;
    }

pub returns-in_err-make-clause-refused : goal.returns-in_err-make-clause-refused
returns-in_err-make-clause-refused c =
    let calls = c.deref-call-items.result.now in
    let same = sym c.deref-call-items.ensures.value in
    let script = subst (λ (x : List ScriptCall). IsScript x c.args.text.now) same c.in_ok-script.ensures.read in
    let had =
    subst (λ (x : List ScriptCall). AllByRecursion IsHad x) (c.deref.ensures.value ∙ same)
    c.in_ok-admit.ensures.admitted in
    let stands : StandsAt calls c.loop-before.before c.saturating_add.result c.call-item.result = record {
      inside = omega arith;
      is = c.call-item.is;
      counts = c.saturating_add.ensures;
    } in
    let refused : RefusesScript c.args.text.now c.in_err-make.field-0.0 =
    not_made c.args.text.now (playing_of c.loop-before.player) c.in_err-make.field-0.0 script had stands
    c.loop-before.invariant c.in_err-make.ensures.refused in
    search rules
