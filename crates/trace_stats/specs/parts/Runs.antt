-- For private contracts: one frame of a run.
use Rattle.std.specs.Prelude.{◌≡◌, Bool, true, false, List, [], ◌∷◌, Some, None, Result, Ok, Err}
use Rattle.trace_values.specs.Values.{owned_reader}
use Rattle.trace_wire.specs.Runs.{Item}
use Rattle.dial9_trace_format.specs.declared.failure.Failure.{Failure}
use Rattle.dial9_trace_format.specs.Decoding.{DecoderState, NextFrame, error_of}
use Rattle.dial9_trace_format.specs.declared.decoder.error.TryForEachError.{TryForEachError}
use Rattle.dial9_trace_format.specs.declared.decoder.error.TryForEachError.TheVariants.{Decode, User}
use Rattle.trace_stats.specs.Events.{Counted}
use Rattle.trace_stats.specs.Runs.{counted_in, KeepsMore, Refuses}
use Rattle.trace_stats.specs.declared.trace.TraceStats.{TraceStats}
use Rattle.trace_stats.specs.declared.trace.StatsError.{StatsError}

-- there is one event, and it was refused
abbrev pub RefusesOne : List Counted → TraceStats → TraceStats → StatsError → Type 0
RefusesOne es old new e = (c : Counted) × (es ≡ c ∷ []) × Refuses c old new e

-- events were counted, at most one; or it was refused
abbrev pub CountsThese : List Counted → TraceStats → TraceStats → Result (Unit {0}) StatsError → Type 0
CountsThese es old new (Ok u) = KeepsMore es old new
CountsThese es old new (Err e) = RefusesOne es old new e

-- the next frame was read, and counted where it is an event; or none stands there, or the decoder fails; or the event
-- was refused
abbrev pub CountsNext : DecoderState → DecoderState → TraceStats → TraceStats → Result Bool (TryForEachError StatsError)
    → Type 0
CountsNext old new s t (Ok true) =
    (shown : Item) × NextFrame owned_reader old new (Ok (Some shown)) × KeepsMore (counted_in old new shown) s t
CountsNext old new s t (Ok false) = NextFrame owned_reader old new (Ok None) × (t ≡ s)
CountsNext old new s t (Err (Decode e)) = NextFrame owned_reader old new (Err e) × (t ≡ s)
CountsNext old new s t (Err (User e)) =
    (shown : Item) × NextFrame owned_reader old new (Ok (Some shown)) × RefusesOne (counted_in old new shown) s t e

-- after a failure the answer is its error, and nothing changes
abbrev pub FailsAgain : Failure → DecoderState → DecoderState → TraceStats → TraceStats
    → Result Bool (TryForEachError StatsError) → Type 0
FailsAgain f old new s t (Ok b) = ⊥
FailsAgain f old new s t (Err e) = (e ≡ Decode (error_of old.position f)) × (new ≡ old) × (t ≡ s)
