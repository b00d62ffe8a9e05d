use Rattle.std.proofs.Common.{refl}
use Rattle.dial9_trace_format.specs.ShownEvents.{shown_event}
use Rattle.trace_stats.proofs.EventAddedToSchema.{one_added, value_in}
use Rattle.trace_stats.proofs.schema.add_value.Goals as goal

pub returns-in-Some-clause-added : goal.returns-in-Some-clause-added
returns-in-Some-clause-added c =
    let e = shown_event c.args.event.now in
    let item = c.in-Some.ensures.lookup in
    one_added c.add.result c.args.index e c.args.fields.now.items
    c.add.new.self (record { inside = c.requires; is = c.index_mut.ensures.value })
    (value_in e c.args.event.now.fields.now c.args.index c.in-Some.value.now refl item.3.0 item.1)
    refl c.measure_of.ensures c.add.ensures.added
