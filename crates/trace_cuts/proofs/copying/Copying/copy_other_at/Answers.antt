use Rattle.std.proofs.Common.{◌∷◌}
use Rattle.trace_values.specs.Values.{owned_reader}
use Rattle.trace_wire.specs.parts.codec.HiddenFrames.{other_tag}
use Rattle.trace_cuts.proofs.OneFrameCopied.{none_shown, tag_is_shown}
use Rattle.trace_cuts.proofs.copying.Copying.copy_other_at.Goals as goal

pub returns-in-Err-Unread : goal.returns-in-Err-Unread
returns-in-Err-Unread c =
    none_shown c.args.self.now (other_tag c.args.other ∷ c.args.bytes.now) c.requires
    (tag_is_shown c.args.other c.args.bytes.now)
    (rw c.in-Err-Unread.field-0-is at (c.in-Err-Unread.ensures.reads owned_reader c.args.self.now.grammar))
