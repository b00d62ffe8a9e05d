use Rattle.std.proofs.lemmas.Result.{err_from_is_err_and}
use Rattle.trace_json.specs.parts.Put.{head_tokens}
use Rattle.trace_json.proofs.SentText.{not_put, put_on}
use Rattle.trace_json.proofs.growing.SentJsonGrowingJson.put_head.Goals as goal

pub returns : goal.returns
returns g c =
    put_on g.W.TraceWrite.told c.args.self.now c.put_head_to.new.out c.args.self.now.weight
    (head_tokens c.args.file c.args.name.now c.args.timestamp_ns) c.in_ok-put_head_to.ensures.tokens
    c.put_head_to.ensures.before

pub returns-in_err-put_head_to : goal.returns-in_err-put_head_to
returns-in_err-put_head_to g c =
    let p = err_from_is_err_and c.from_residual.result c.from_residual.ensures.1 in
    rw (p.1, p.2) (not_put g.W.TraceWrite.told c.args.self.now c.put_head_to.new.out c.args.self.now.weight)
