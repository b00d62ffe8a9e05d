-- Which events are taken of the frames of a trace.
use Rattle.std.specs.Prelude.{◌≡◌, ℤ, List, [], ◌∷◌, true, false, Option, Some, None, IfSome, IfNone, Result, Ok, Err}
use Rattle.std.specs.FinMap.{FinMap}
use Rattle.std.specs.Ordering.{nat_cmp}
use Rattle.trace_wire.specs.Runs.{Item}
use Rattle.trace_wire.specs.Schemas.{WireType}
use Rattle.dial9_trace_format.specs.Feeding.{FeedState}
use Rattle.dial9_trace_format.specs.ShownEvents.{ShownEvent}
use Rattle.trace_events.specs.OwnedEvents.{owned_event, events_in}
use Rattle.trace_events.specs.declared.event.OwnedEvent.{OwnedEvent}
use Rattle.gotymbe_plan.specs.declared.ending.Ending.{Ending}
use Rattle.gotymbe_plan.specs.declared.picking.Picker.{Picker}
use Rattle.gotymbe_plan.specs.Picking.{Picks, Learns}
use Rattle.gotymbe.specs.Clocks.{IsZeroSaid}

-- where no clock was known, the one that an item says is learnt; else nothing changes
pub record LearnsOf (types : FinMap nat_cmp WireType) (item : Item) (old new : Picker) : Type 0 where
  pub known : IfSome old.filter (λ filter. new ≡ old)
  pub waits : IfNone old.filter ((zero : Option ℤ) × IsZeroSaid types item zero × Learns zero old new)

-- an event is taken, with all that it shows, exactly where it is asked for and reading goes on
abbrev pub PicksShown : ShownEvent → Picker → Picker → Result (Option OwnedEvent) Ending → Type 0
PicksShown shown old new (Ok (Some event)) =
    (owned_event event ≡ shown) × Picks shown.name shown.time old new (Ok true)
PicksShown shown old new (Ok None) = Picks shown.name shown.time old new (Ok false)
PicksShown shown old new (Err ending) = Picks shown.name shown.time old new (Err ending)

-- the same of the events that an item shows; where it shows none, nothing is taken, and its clock is learnt
abbrev pub PicksAmong : List ShownEvent → FinMap nat_cmp WireType → Item → Picker → Picker
    → Result (Option OwnedEvent) Ending → Type 0
PicksAmong [] types item old new result = (result ≡ Ok None) × LearnsOf types item old new
PicksAmong (shown ∷ others) types item old new result = PicksShown shown old new result

-- what is taken of an item that a decoder in this state gave last
abbrev pub PicksOf : FeedState → Item → Picker → Picker → Result (Option OwnedEvent) Ending → Type 0
PicksOf s item old new result =
    PicksAmong (events_in s.grammar.wire_types s.pools.strings s.pools.stacks item) s.grammar.wire_types item
    old new result
