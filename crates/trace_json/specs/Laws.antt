-- The events of a trace nest so little that readers of JSON read their lines back.
use Rattle.std.specs.Prelude.{◌≤◌, ℕ, List}
use Rattle.std.specs.List.{All, Contains}
use Rattle.json.specs.Json.{Json, max_depth}
use Rattle.json.specs.Tree.{depth}
use Rattle.trace_values.specs.Values.{Kind}
use Rattle.trace_wire.specs.Frames.{Grammar, Frame}
use Rattle.trace_wire.specs.Runs.{IsRun, Pools}
use Rattle.dial9_trace_format.specs.ShownEvents.{ShownEvent}
use Rattle.dial9_trace_format.specs.Sinks.{events_of}
use Rattle.trace_json.specs.EventJson.{IsEventJson}

-- what JSON an event is nests no deeper than readers go
abbrev pub IsShallow : ShownEvent → Type 0
IsShallow e = (j : Json) → IsEventJson e j → depth j ≤ max_depth

-- so it is of each event of a run
abbrev pub RunIsShallow : Type 0
RunIsShallow =
    (kinds : List Kind) (g : Grammar) (bytes : List ℕ) (frames : List Frame) (last : Grammar) (pools : Pools) →
    IsRun kinds g bytes frames last → All IsShallow (events_of g pools frames)

-- an event is one of those of a run
pub record IsOfRun (e : ShownEvent) : Type 0 where
  pub kinds : List Kind
  pub grammar : Grammar
  pub bytes : List ℕ
  pub frames : List Frame
  pub last : Grammar
  pub pools : Pools
  pub run : IsRun kinds grammar bytes frames last
  pub among : Contains (events_of grammar pools frames) e

-- the events of a run are such
abbrev pub RunHasEvents : Type 0
RunHasEvents =
    (kinds : List Kind) (g : Grammar) (bytes : List ℕ) (frames : List Frame) (last : Grammar) (pools : Pools) →
    IsRun kinds g bytes frames last → All IsOfRun (events_of g pools frames)
