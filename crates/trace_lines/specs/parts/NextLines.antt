-- For private contracts: the lines of a piece, which are sent as they grow.
use Rattle.std.specs.Prelude.{◌≡◌, ℕ, List, [], ◌++◌, Option, Some, Result, Ok, Err, string_bytes}
use Rattle.trace_values.specs.Sending.{Account}
use Rattle.trace_values.specs.Values.{Value}
use Rattle.trace_wire.specs.Runs.{EventItem}
use Rattle.dial9_trace_format.specs.Feeding.{FeedState}
use Rattle.dial9_trace_format.specs.Pulling.{Pulls}
use Rattle.dial9_trace_format.specs.declared.decoder.feeding.whole.WholeEvent.{WholeEvent}
use Rattle.trace_lines.specs.Lines.{line, event_line}
use Rattle.trace_lines.specs.declared.pieces.Next.{Next}
use Rattle.trace_lines.specs.declared.pieces.Next.TheVariants.{Line}
use Rattle.trace_lines.specs.declared.sent_lines.Lines.{Lines}
use Rattle.trace_lines.specs.declared.sent_lines.LineFault.{LineFault}
use Rattle.trace_lines.specs.parts.PieceDumps.{AreNextLines, ArePieceLines, LinesBegin}
use Rattle.trace_lines.specs.parts.SentLines.{GoOut, LineGrows}

-- the line of an event is appended, and the decoder goes on after it; or the line is not
abbrev pub PutsEvent : {S E : Type 0} → (S → List ℕ → Result (Unit {0}) E → S → Type 0) → WholeEvent → List Value
    → S → S → FeedState → FeedState → Result Next E → Type 0
PutsEvent grows e vs s t old new (Ok next) =
    (next ≡ Line) × grows s (line (event_line e.type_id.0 e.timestamp_ns vs)) (Ok tt) t
    × Pulls old new (Ok (Some (EventItem e.type_id.0 e.timestamp_ns vs)))
PutsEvent grows e vs s t old new (Err fault) =
    grows s (line (event_line e.type_id.0 e.timestamp_ns vs)) (Err fault) t

-- the next lines are appended; or they are not, or a front of them
abbrev pub PutsNext : {W : Type 0} → (W → Account) → Lines W → Lines W → FeedState → FeedState → Result Next LineFault
    → Type 0
PutsNext told s t old new (Ok next) = (text : List ℕ) × AreNextLines old new text next × LineGrows told s text (Ok tt) t
PutsNext told s t old new (Err e) = (text : List ℕ) × LinesBegin old [] text × LineGrows told s text (Err e) t

-- The next lines are held after those that were, of which a front may be sent then. Where they are not held, all that
-- went out, and what is held, is a front of what was to come.
abbrev pub HoldsNext : {W : Type 0} → (W → Account) → Lines W → Lines W → FeedState → FeedState → Result Next LineFault
    → Type 0
HoldsNext told s t old new (Ok next) =
    (text : List ℕ) × AreNextLines old new text next
    × GoOut told s t (string_bytes s.held ++ text) (string_bytes t.held) (Ok tt)
HoldsNext told s t old new (Err e) =
    (text : List ℕ) × LinesBegin old [] text
    × GoOut told s t (string_bytes s.held ++ text) (string_bytes t.held) (Err e)

-- The same of all lines of a piece.
abbrev pub GathersSent : {W : Type 0} → (W → Account) → Lines W → Lines W → FeedState → List ℕ → FeedState
    → Result (Option ℕ) LineFault → Type 0
GathersSent told s t old bytes new (Ok end) =
    (text : List ℕ) × ArePieceLines old bytes new text end
    × GoOut told s t (string_bytes s.held ++ text) (string_bytes t.held) (Ok tt)
GathersSent told s t old bytes new (Err e) =
    (text : List ℕ) × LinesBegin old bytes text
    × GoOut told s t (string_bytes s.held ++ text) (string_bytes t.held) (Err e)
