use Rattle.std.proofs.Common.{◌∷◌, refl, map as list_map}
use Rattle.trace_values.specs.ValueViews.{view}
use Rattle.trace_wire.specs.FrameTags.{event_tag}
use Rattle.trace_cuts.proofs.OneFrameCopied.{none_shown, event_there}
use Rattle.trace_cuts.proofs.copying.Copying.copy_event_at.Goals as goal

pub copy_event-requires : goal.copy_event-requires
copy_event-requires c =
    let x = c.in-Ok.found in
    event_there c.args.self.now (event_tag ∷ c.args.values.now) x.0 x.1 (list_map view x.2.items) x.3.now c.requires
    c.in-Ok.ensures.0

pub returns-in-Err-Unread : goal.returns-in-Err-Unread
returns-in-Err-Unread c =
    none_shown c.args.self.now (event_tag ∷ c.args.values.now) c.requires refl
    (rw c.in-Err-Unread.field-0-is at c.in-Err-Unread.ensures) c.args.range
