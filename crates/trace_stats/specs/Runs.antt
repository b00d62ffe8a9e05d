-- The events of a run of frames, each with the bytes that it takes, and what is kept of all of them.
use Rattle.std.specs.Prelude.{◌≡◌, ◌-◌, List, [], ◌∷◌, ◌++◌, map as list_map, Some, None, Result, Ok, Err}
use Rattle.trace_values.specs.Values.{owned_reader}
use Rattle.trace_wire.specs.Frames.{Frame}
use Rattle.trace_wire.specs.Runs.{Item, items}
use Rattle.dial9_trace_format.specs.Decoding.{DecoderState, Goes, NextFrame}
use Rattle.dial9_trace_format.specs.Sinks.{events_of}
use Rattle.dial9_trace_format.specs.declared.decoder.error.TryForEachError.{TryForEachError}
use Rattle.dial9_trace_format.specs.declared.decoder.error.TryForEachError.TheVariants.{Decode, User}
use Rattle.trace_events.specs.OwnedEvents.{events_in}
use Rattle.trace_stats.specs.Events.{Counted, counted_event}
use Rattle.trace_stats.specs.Traces.{AreStatsOf}
use Rattle.trace_stats.specs.Refusals.{RefusesEvent, IsNewSchema}
use Rattle.trace_stats.specs.declared.trace.TraceStats.{TraceStats}
use Rattle.trace_stats.specs.declared.trace.StatsError.{StatsError}
use Rattle.trace_stats.specs.declared.trace.StatsError.TheVariants.{OutOfMemory}

-- the event that a frame is, from where the frame before it ends to its own end, with the bytes between the two; no
-- other frame is one
abbrev pub counted_in : DecoderState → DecoderState → Item → List Counted
counted_in old new shown =
    list_map (λ e. counted_event e (new.position - old.position))
    (events_in new.grammar.wire_types new.pools.strings new.pools.stacks shown)

-- frames that are shown are given one after another, and these are the events among them
abbrev pub GivesCounted : List Item → DecoderState → DecoderState → List Counted → Type 0
GivesCounted [] old new es = (old ≡ new) × (es ≡ [])
GivesCounted (shown ∷ more) old new es =
    (mid : DecoderState) × (others : List Counted) × NextFrame owned_reader old mid (Ok (Some shown))
    × GivesCounted more mid new others × (es ≡ counted_in old mid shown ++ others)

-- The events of the frames from one place to another, in order, each with its schema and its pools. Each takes the
-- bytes of its frame, and of the headers and resets right before that.
pub record AreEventsBetween (old new : DecoderState) (es : List Counted) : Type 0 where
  pub frames : List Frame
  pub goes : Goes owned_reader old new frames
  pub events : list_map (λ c. c.event) es ≡ events_of old.grammar old.pools frames
  pub bytes : GivesCounted (items frames) old new es

-- what was kept of any events is kept of these too, after them
abbrev pub KeepsMore : List Counted → TraceStats → TraceStats → Type 0
KeepsMore more old new = (es : List Counted) → AreStatsOf es old → AreStatsOf (es ++ more) new

-- an event was refused, for want of memory only where its schema is new
pub record Refuses (c : Counted) (old new : TraceStats) (e : StatsError) : Type 0 where
  pub refused : RefusesEvent old new e
  pub memory : e ≡ OutOfMemory → IsNewSchema c.event.entry old

-- all events up to where no frame stands were counted; or those up to where the decoder fails; or those before one that
-- was refused, which was read all the same
abbrev pub CountsAll : DecoderState → DecoderState → TraceStats → TraceStats
    → Result (Unit {0}) (TryForEachError StatsError) → Type 0
CountsAll old new s t (Ok u) =
    (mid : DecoderState) × (es : List Counted) × AreEventsBetween old mid es × KeepsMore es s t
    × NextFrame owned_reader mid new (Ok None)
CountsAll old new s t (Err (Decode e)) =
    (mid : DecoderState) × (es : List Counted) × AreEventsBetween old mid es × KeepsMore es s t
    × NextFrame owned_reader mid new (Err e)
CountsAll old new s t (Err (User e)) =
    (mid : DecoderState) × (m : TraceStats) × (es : List Counted) × (c : Counted)
    × AreEventsBetween old mid es × KeepsMore es s m × AreEventsBetween mid new (c ∷ []) × Refuses c m t e
