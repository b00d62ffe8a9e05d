use Rattle.std.proofs.Common.{[], ◌∷◌}
use Rattle.std.proofs.lemmas.Result.{err_from_is_err_and}
use Rattle.trace_json.specs.parts.Growing.{mark_token}
use Rattle.trace_json.proofs.SentText.{not_put, put_on}
use Rattle.trace_json.proofs.growing.SentJsonGrowingJson.put_mark.Goals as goal

pub returns : goal.returns
returns g c =
    put_on g.W.TraceWrite.told c.args.self.now c.put_mark_to.new.out c.args.self.now.weight
    (mark_token c.args.mark ∷ []) c.in_ok-put_mark_to.ensures.tokens c.put_mark_to.ensures.before

pub returns-in_err-put_mark_to : goal.returns-in_err-put_mark_to
returns-in_err-put_mark_to g c =
    let p = err_from_is_err_and c.from_residual.result c.from_residual.ensures.1 in
    rw (p.1, p.2) (not_put g.W.TraceWrite.told c.args.self.now c.put_mark_to.new.out c.args.self.now.weight)
