-- What a refused call of a text has sent.
use Rattle.std.proofs.Common.{◌≡◌, ℕ, List, ◌++◌, Result, Ok, Err, IfErr, subst}
use Rattle.dial9_trace_format.specs.ShownEvents.{ShownEvent}
use Rattle.trace_values.specs.Sending.{Account}
use Rattle.trace_values.specs.Encoding.{SendFails}
use Rattle.trace_chrome.specs.Sending.{HeldFails, EventFails, EndFails, ending_text}
use Rattle.trace_chrome.specs.Steps.{Takes}
use Rattle.trace_chrome.specs.declared.sending.ChromeText.{ChromeText}
use Rattle.trace_chrome.specs.declared.sending.ChromeError.{ChromeError}
use Rattle.trace_chrome.specs.declared.sending.ChromeError.TheVariants.{OutOfMemory, Writer}

-- an event was taken, and what is held then was refused
pub event_refused :
    {W : Type 0} (told : W → Account) {e : ShownEvent} (text held : ChromeText) (old new : W)
    (r : Result (Unit {0}) ChromeError) → Takes e text.trace held.trace text.held.items held.held.items →
    IfErr r (HeldFails told held old new) → IfErr r (EventFails told e text old new)
event_refused told text held old new (Ok u) takes fails = tt
event_refused told text held old new (Err OutOfMemory) takes fails = absurd fails
event_refused told text held old new (Err (Writer kind)) takes fails = (held.trace, held.held.items, takes, fails)

-- the end was put after what is held, and that was refused
pub end_refused :
    {W : Type 0} (told : W → Account) (text held : ChromeText) (old new : W) (r : Result (Unit {0}) ChromeError) →
    held.held.items ≡ text.held.items ++ ending_text text.trace → IfErr r (HeldFails told held old new) →
    IfErr r (EndFails told text old new)
end_refused told text held old new (Ok u) is fails = tt
end_refused told text held old new (Err OutOfMemory) is fails = absurd fails
end_refused told text held old new (Err (Writer kind)) is fails =
    subst (λ (l : List ℕ). SendFails (told old) (told new) l kind) is fails
