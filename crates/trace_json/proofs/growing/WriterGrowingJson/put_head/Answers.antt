use Rattle.trace_json.specs.parts.Put.{head_tokens}
use Rattle.trace_json.proofs.Grown.{written_tokens}
use Rattle.trace_json.proofs.growing.WriterGrowingJson.put_head.Goals as goal

pub returns : goal.returns
returns c =
    written_tokens c.args.self.now c.put_head_to.new.out
    (head_tokens c.args.file c.args.name.now c.args.timestamp_ns) c.put_head_to.result c.put_head_to.ensures.tokens
    c.put_head_to.ensures.before
