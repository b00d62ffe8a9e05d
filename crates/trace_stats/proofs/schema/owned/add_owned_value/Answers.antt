use Rattle.std.proofs.Common.{refl}
use Rattle.trace_events.specs.OwnedEvents.{owned_event}
use Rattle.trace_stats.proofs.EventAddedToSchema.{one_added, owned_value_in}
use Rattle.trace_stats.proofs.schema.owned.add_owned_value.Goals as goal

pub returns-in-Some-clause-added : goal.returns-in-Some-clause-added
returns-in-Some-clause-added c =
    let e = owned_event c.args.event.now in
    let item = c.in-Some.ensures.lookup in
    one_added c.add.result c.args.index e c.args.fields.now.items
    c.add.new.self (record { inside = c.requires; is = c.index_mut.ensures.value })
    (owned_value_in e c.args.event.now.values.now c.args.index c.in-Some.value.now refl item.3.0 item.1)
    refl c.measure_of_owned.ensures c.add.ensures.added
