-- What an event resolves to once more, beside what it resolved to before.
use Rattle.std.specs.Prelude.{◌≡◌, true, Option, Some, None, Result, Ok, Err}
use Rattle.dial9_trace_format.specs.ResolvedViews.{entry_views, same_entry_values}
use Rattle.dial9_trace_format.specs.declared.resolve.ResolvedEvent.{ResolvedEvent}
use Rattle.dial9_trace_format.specs.declared.resolve.error.DeserError.{DeserError}

-- the same entries, no event, or the same reason
abbrev pub IsSameAnswer : Result (Option ResolvedEvent) DeserError → Result (Option ResolvedEvent) DeserError → Type 0
IsSameAnswer (Ok (Some a)) (Ok (Some b)) = same_entry_values (entry_views a.entries.items) (entry_views b.entries.items)
    ≡ true
IsSameAnswer (Ok (Some a)) (Ok None) = ⊥
IsSameAnswer (Ok None) (Ok (Some b)) = ⊥
IsSameAnswer (Ok None) (Ok None) = Unit {0}
IsSameAnswer (Ok a) (Err e) = ⊥
IsSameAnswer (Err e) (Ok b) = ⊥
IsSameAnswer (Err e) (Err f) = e ≡ f
