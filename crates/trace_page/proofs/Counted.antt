-- One event more of those that were counted.
use Rattle.std.proofs.Common.{ℕ, List, [], ◌∷◌, ◌++◌, refl, subst}
use Rattle.trace_page.specs.Counting.{PageEvent, IsCountedAt, AreCounted}
use Rattle.trace_page.specs.declared.schemas.PageSchema.{PageSchema}

-- an event is counted after others
pub counted_more :
    (old mid new : List PageSchema) (es : List PageEvent) (places : List ℕ) (e : PageEvent) (place : ℕ) →
    AreCounted old es places mid → IsCountedAt mid e.shown.entry e.bytes place new →
    AreCounted old (es ++ e ∷ []) (places ++ place ∷ []) new
counted_more old mid new [] [] e place h c =
    (new, subst (λ (ss : List PageSchema). IsCountedAt ss e.shown.entry e.bytes place new) h c, refl)
counted_more old mid new [] (q ∷ qs) e place h c = absurd h
counted_more old mid new (d ∷ ds) [] e place h c = absurd h
counted_more old mid new (d ∷ ds) (q ∷ qs) e place h c =
    (h.0, h.1, counted_more h.0 mid new ds qs e place h.2 c)
