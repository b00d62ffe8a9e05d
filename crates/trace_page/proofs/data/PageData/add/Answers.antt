use Rattle.std.proofs.Common.{refl, rules}
use Rattle.trace_events.specs.OwnedEvents.{owned_event}
use Rattle.trace_page.specs.Counting.{PageEvent}
use Rattle.trace_page.proofs.Told.{held_more}
use Rattle.trace_page.proofs.data.PageData.add.Goals as goal

pub returns-clause-added : goal.returns-clause-added
returns-clause-added c = λ files rest holds.
    let put = c.in_ok-put_values.ensures in
    let e : PageEvent = record { shown = owned_event c.args.event.now; bytes = c.args.bytes } in
    held_more files rest e c.args.self.now _ (record {
      own = put.tokens.all;
      place = c.in_ok-place.place;
      whole = refl;
      grown = put.grown;
      are = put.tokens.are_so;
      tokens = put.tokens.tokens;
      times = search rules;
      places = search rules;
      schemas = search rules;
      clocks = refl;
      ended = refl;
    })
    holds
