use Rattle.std.proofs.Common.{[], ◌∷◌}
use Rattle.trace_json.specs.parts.Growing.{mark_token}
use Rattle.trace_json.proofs.Grown.{written_tokens}
use Rattle.trace_json.proofs.growing.WriterGrowingJson.put_mark.Goals as goal

pub returns : goal.returns
returns c =
    written_tokens c.args.self.now c.put_mark_to.new.out (mark_token c.args.mark ∷ []) c.put_mark_to.result
    c.put_mark_to.ensures.tokens c.put_mark_to.ensures.before
