-- The schemas of events, with how many bytes their events have.
use Rattle.std.specs.Prelude.{◌≡◌, ◌≢◌, ℕ, ◌+◌, ◌-◌, ◌^◌, ◌⊎◌, List, [], ◌∷◌, ◌++◌, Some, length}
use Rattle.std.specs.Prelude.{min, slice_get, slice_set}
use Rattle.std.specs.List.{All}
use Rattle.trace_wire.specs.Schemas.{Entry}
use Rattle.dial9_trace_format.specs.ShownEvents.{ShownEvent}
use Rattle.trace_page.specs.declared.schemas.PageSchema.{PageSchema}

-- an event, and how many bytes it has in the trace
pub record PageEvent : Type 0 where
  pub shown : ShownEvent
  pub bytes : ℕ

-- so many bytes are counted at most
abbrev pub most_bytes : ℕ
most_bytes = 2 ^ 64 - 1

-- a schema stands at a place
abbrev pub IsPlaceOf : List PageSchema → Entry → ℕ → Type 0
IsPlaceOf ss e place = (s : PageSchema) × (slice_get ss place ≡ Some s) × (s.entry ≡ e)

-- a schema stands nowhere
abbrev pub LacksEntry : List PageSchema → Entry → Type 0
LacksEntry ss e = All (λ s. s.entry ≢ e) ss

-- the schema at a place has so many bytes more, of which 64 bits are counted; the others are as before
abbrev pub HasMoreBytes : List PageSchema → ℕ → ℕ → List PageSchema → Type 0
HasMoreBytes old place bytes new =
    (s : PageSchema) × (slice_get old place ≡ Some s)
    × (new ≡ slice_set old place (record { entry = s.entry; bytes = min (s.bytes + bytes) most_bytes }))

-- An event's bytes are counted at the place of its schema. A schema that stands nowhere yet comes last.
abbrev pub IsCountedAt : List PageSchema → Entry → ℕ → ℕ → List PageSchema → Type 0
IsCountedAt old e bytes place new =
    (IsPlaceOf old e place × HasMoreBytes old place bytes new)
    ⊎ (LacksEntry old e × (place ≡ length old) × (new ≡ old ++ record { entry = e; bytes = bytes } ∷ []))

-- from some schemas to others events were counted, one after another, each at its place
abbrev pub AreCounted : List PageSchema → List PageEvent → List ℕ → List PageSchema → Type 0
AreCounted old [] [] new = new ≡ old
AreCounted old [] (place ∷ places) new = ⊥
AreCounted old (e ∷ es) [] new = ⊥
AreCounted old (e ∷ es) (place ∷ places) new =
    (next : List PageSchema) × IsCountedAt old e.shown.entry e.bytes place next × AreCounted next es places new
