use Rattle.std.proofs.Common.{List, [], ◌∷◌, ◌++◌, refl, ◌∙◌, ap}
use Rattle.std.proofs.lemmas.Result.{err_from_is_err_and}
use Rattle.json.specs.Print.{print}
use Rattle.json.specs.Token.{Token, end_array}
use Rattle.json.specs.Written.{Written}
use Rattle.trace_json.proofs.SentText.{line_gone, line_refused_on, line_stuck}
use Rattle.trace_json.proofs.growing.SentJson.send_line.Goals as goal

pub returns-in_err-send_both : goal.returns-in_err-send_both
returns-in_err-send_both g c =
    let p = err_from_is_err_and c.from_residual.result c.from_residual.ensures.1 in
    rw (p.1, p.2) (line_stuck g.W.TraceWrite.told c.args.self.now _ _
    (record {
      held_is = c.deref.ensures.value;
      text_is = c.deref-2.ensures.value ∙ c.into_inner-line.ensures.items
          ∙ ap (λ (w : Written). w.before ++ print w.tokens) c.replace-writer.ensures.value;
      left_is = c.left_of.ensures;
    }) refl c.in_err-send_both.ensures)

pub returns : goal.returns
returns g c =
    line_gone g.W.TraceWrite.told c.args.self.now _
    (record {
      held_is = c.deref.ensures.value;
      text_is = c.deref-2.ensures.value ∙ c.into_inner-line.ensures.items
          ∙ ap (λ (w : Written). w.before ++ print w.tokens) c.replace-writer.ensures.value;
      left_is = c.left_of.ensures;
    }) refl c.in_ok-send_both.ensures c.requires
    (record {
      tokens = c.in_ok-end_array.ensures.ok ∙ ap (λ (ts : List Token). ts ++ end_array ∷ []) c.new-3.ensures.tokens;
      before = c.end_array.ensures.room.0 ∙ c.new-3.ensures.before ∙ c.clear-2.ensures.items;
      goes_on = refl;
      held = c.clear.ensures.items;
    })

pub returns-in_err-end_array : goal.returns-in_err-end_array
returns-in_err-end_array g c =
    let p = err_from_is_err_and c.from_residual-in_err-end_array.result c.from_residual-in_err-end_array.ensures.1 in
    rw (p.1, p.2) (line_refused_on g.W.TraceWrite.told c.args.self.now _
    (record {
      held_is = c.deref.ensures.value;
      text_is = c.deref-2.ensures.value ∙ c.into_inner-line.ensures.items
          ∙ ap (λ (w : Written). w.before ++ print w.tokens) c.replace-writer.ensures.value;
      left_is = c.left_of.ensures;
    }) refl c.in_ok-send_both.ensures)
