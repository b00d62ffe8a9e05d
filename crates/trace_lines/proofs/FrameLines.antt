-- The line of the event that a frame is.
use Rattle.std.proofs.Common.{◌≡◌, ℕ, List, [], ◌∷◌, ◌++◌, Result, refl, sym, ap, subst, ◌∙◌, append-nil}
use Rattle.std.specs.Result.{OnOk}
use Rattle.std.specs.FinMap as finmap
use Rattle.std.specs.Ordering.{nat_cmp}
use Rattle.trace_wire.specs.Schemas.{WireType}
use Rattle.trace_wire.specs.Runs.{Item, EventItem, SchemaItem, StringsItem, StacksItem, AnnotationsItem}
use Rattle.dial9_trace_format.specs.ShownEvents.{ShownEvent}
use Rattle.dial9_trace_format.specs.Feeding.{FeedState}
use Rattle.dial9_trace_format.specs.ResolvedFrames.{event_beside}
use Rattle.trace_events.specs.OwnedEvents.{events_in}
use Rattle.trace_lines.specs.Lines.{line}
use Rattle.trace_lines.specs.ResolvedLines.{resolved_line, event_lines}

-- the event is the one that stands beside what a decoder knows
beside : (s : FeedState) (i : Item) → events_in s.grammar.wire_types s.pools.strings s.pools.stacks i ≡ event_beside s i
beside s (EventItem id time values) = refl
beside s (SchemaItem entry) = refl
beside s (StringsItem entries) = refl
beside s (StacksItem entries) = refl
beside s (AnnotationsItem id entries) = refl

-- the line of the event that a frame is, by what a decoder knows
pub frame_line :
    {E : Type 0} (s : FeedState) (i : Item) {types : finmap.FinMap nat_cmp WireType}
    {strings stacks : finmap.FinMap nat_cmp (List ℕ)} (e : ShownEvent) {shown : ShownEvent}
    (r : Result (Unit {0}) E) (old new : List ℕ) →
    (types ≡ s.grammar.wire_types) × (strings ≡ s.pools.strings) × (stacks ≡ s.pools.stacks) →
    events_in types strings stacks i ≡ e ∷ [] → shown ≡ e →
    OnOk r (new ≡ old ++ line (resolved_line shown)) → OnOk r (new ≡ old ++ event_lines (event_beside s i))
frame_line s i {types} {strings} {stacks} e {shown} r old new known is same put =
    let here : events_in types strings stacks i ≡ event_beside s i =
    ap (λ (t : finmap.FinMap nat_cmp WireType). events_in t strings stacks i) known.0
    ∙ ap (λ (t : finmap.FinMap nat_cmp (List ℕ)). events_in s.grammar.wire_types t stacks i) known.1
    ∙ ap (λ (t : finmap.FinMap nat_cmp (List ℕ)). events_in s.grammar.wire_types s.pools.strings t i) known.2
    ∙ beside s i in
    let lines : line (resolved_line shown) ≡ event_lines (event_beside s i) =
    ap (λ (x : ShownEvent). line (resolved_line x)) same ∙ sym (append-nil (line (resolved_line e)))
    ∙ ap (λ (es : List ShownEvent). event_lines es) (sym is ∙ here) in
    subst (λ (t : List ℕ). OnOk r (new ≡ old ++ t)) lines put
