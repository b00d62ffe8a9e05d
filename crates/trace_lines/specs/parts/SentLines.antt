-- For private contracts: lines that are sent as they grow.
use Rattle.std.specs.Prelude.{◌≡◌, ℕ, List, ◌++◌, Result, Ok, Err, string_bytes}
use Rattle.trace_values.specs.Sending.{Account}
use Rattle.dial9_trace_format.specs.ShownEvents.{ShownEvent}
use Rattle.trace_lines.specs.Lines.{line}
use Rattle.trace_lines.specs.ResolvedLines.{resolved_line}
use Rattle.trace_lines.specs.SentLines.{GoThrough}
use Rattle.trace_lines.specs.declared.sent_lines.Lines.{Lines}
use Rattle.trace_lines.specs.declared.sent_lines.LineFault.{LineFault}
use Rattle.trace_lines.specs.declared.sent_lines.LinesRefusal.{LinesRefusal}
use Rattle.trace_lines.specs.declared.sent_lines.LinesRefusal.TheVariants.{Enough, Fault}

-- lines that keep their writer, whose bytes go through it
pub record GoOut {W : Type 0} (told : W → Account) (old new : Lines W) (whole rest : List ℕ)
    (result : Result (Unit {0}) LineFault) : Type 0 where
  pub same_writer : new.out.ghost_name ≡ old.out.ghost_name
  pub bytes : GoThrough (told old.out.now) (told new.out.now) whole rest (string_bytes new.held) result

-- what is held, and the line that is being made
abbrev pub unsent : {W : Type 0} → Lines W → List ℕ
unsent s = string_bytes s.held ++ string_bytes s.line

-- a text is appended to the line
abbrev pub LineGrows : {W : Type 0} → (W → Account) → Lines W → List ℕ → Result (Unit {0}) LineFault → Lines W
    → Type 0
LineGrows told s text result t = GoOut told s t (unsent s ++ text) (unsent t) result

-- the line of an event is held, resolved
abbrev pub HoldsEvent : {W : Type 0} → (W → Account) → Lines W → ShownEvent → Result (Unit {0}) LineFault → Lines W
    → Type 0
HoldsEvent told s e result t =
    GoOut told s t (string_bytes s.held ++ line (resolved_line e)) (string_bytes t.held) result

-- the same where there may be enough of them then
abbrev pub takes_event : {W : Type 0} → (W → Account) → Lines W → ShownEvent → Result (Unit {0}) LinesRefusal
    → Lines W → Type 0
takes_event told s e (Ok u) t = HoldsEvent told s e (Ok tt) t
takes_event told s e (Err Enough) t = HoldsEvent told s e (Ok tt) t
takes_event told s e (Err (Fault fault)) t = HoldsEvent told s e (Err fault) t
