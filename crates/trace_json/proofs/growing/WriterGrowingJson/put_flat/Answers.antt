use Rattle.dial9_trace_format.specs.parts.Resolving.{as_pools}
use Rattle.trace_json.specs.EventJson.{IsValueJson}
use Rattle.trace_json.proofs.Grown.{written_one}
use Rattle.trace_json.proofs.growing.WriterGrowingJson.put_flat.Goals as goal

pub returns : goal.returns
returns g c =
    written_one (IsValueJson (as_pools c.args.strings.now c.args.stacks.now) (g.V.TraceValue.value c.args.value.now))
    c.args.self.now c.put_flat.new.out c.put_flat.result (c.put_flat.ensures.tokens c.requires)
    c.put_flat.ensures.before
