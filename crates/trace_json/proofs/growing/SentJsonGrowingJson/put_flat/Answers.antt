use Rattle.std.proofs.lemmas.Result.{err_from_is_err_and}
use Rattle.json.specs.Tree.{json_tokens}
use Rattle.dial9_trace_format.specs.parts.Resolving.{as_pools}
use Rattle.trace_json.specs.EventJson.{IsValueJson}
use Rattle.trace_json.proofs.SentText.{not_put, one_sent_on, put_on, value_ends}
use Rattle.trace_json.proofs.growing.SentJsonGrowingJson.put_flat.Goals as goal

pub returns-in_err-put_flat : goal.returns-in_err-put_flat
returns-in_err-put_flat g c =
    let p = err_from_is_err_and c.from_residual.result c.from_residual.ensures.1 in
    rw (p.1, p.2) (not_put g.W.TraceWrite.told c.args.self.now c.put_flat.new.out c.args.self.now.weight)

pub returns-then-self-lt-ENOUGH : goal.returns-then-self-lt-ENOUGH
returns-then-self-lt-ENOUGH g c =
    let put = c.in_ok-put_flat.ensures.tokens c.requires in
    record {
      json = put.json;
      is_so = put.is_so;
      grown = put_on g.W.TraceWrite.told c.args.self.now c.put_flat.new.out c.saturating_add-self.result
          (json_tokens put.json) put.tokens c.put_flat.ensures.before;
    }

pub send_line-requires : goal.send_line-requires
send_line-requires g c =
    let put = c.in_ok-put_flat.ensures.tokens c.requires in
    value_ends c.args.self.now.writer.tokens c.put_flat.new.out.tokens put.json put.tokens

pub returns : goal.returns
returns g c =
    let s = c.args.self.now in
    let n = c.saturating_add-self.result in
    let put = c.in_ok-put_flat.ensures.tokens c.requires in
    one_sent_on g.W.TraceWrite.told
    (IsValueJson (as_pools c.args.strings.now c.args.stacks.now) (g.V.TraceValue.value c.args.value.now)) s
    (record s { writer = c.put_flat.new.out; weight = n }) c.send_line.new.self put.json c.send_line.result put.is_so
    (put_on g.W.TraceWrite.told s c.put_flat.new.out n (json_tokens put.json) put.tokens c.put_flat.ensures.before)
    c.send_line.ensures
