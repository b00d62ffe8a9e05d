-- The files of a page, once one more has ended.
use Rattle.std.proofs.Common.{◌≡◌, ℕ, ◌+◌, ◌<◌, ◌≤◌, List, [], ◌∷◌, ◌++◌, None, length, sym, ap, ◌∙◌}
use Rattle.std.proofs.Common.{arith, append-nil}
use Rattle.std.proofs.lemmas.Grind.{flat_map-append}
use Rattle.std.proofs.lemmas.List.{length-append, length-map}
use Rattle.trace_page.specs.Counting.{PageEvent}
use Rattle.trace_page.specs.Files.{PageFile, events_of, clocks_of, with_rest}
use Rattle.trace_page.specs.Holding.{Holds}
use Rattle.trace_page.specs.declared.clocks.FileClock.{FileClock}
use Rattle.trace_page.specs.declared.data.PageData.{PageData}

-- its events come last
pub events_ended : (fs : List PageFile) (f : PageFile) → events_of (fs ++ f ∷ []) ≡ events_of fs ++ f.events
events_ended fs f =
    flat_map-append (λ (g : PageFile). g.events) fs (f ∷ [])
    ∙ ap (λ (l : List PageEvent). events_of fs ++ l) (append-nil f.events)

-- and so does its clock
pub clocks_more : (n : ℕ) (fs : List PageFile) (f : PageFile) →
    clocks_of n (fs ++ f ∷ [])
    ≡ clocks_of n fs ++ record { first = n + length (events_of fs); zero = f.zero } ∷ []
clocks_more n [] f = ap (λ (i : ℕ). record { first = i; zero = f.zero } ∷ []) (omega arith)
clocks_more n (g ∷ gs) f =
    let before : (n + length g.events) + length (events_of gs) ≡ n + length (events_of (g ∷ gs))
    = omega (arith, length-append g.events (events_of gs)) in
    ap (λ (l : List FileClock). record { first = n; zero = g.zero } ∷ l)
    (clocks_more (n + length g.events) gs f
    ∙ ap (λ (i : ℕ). clocks_of (n + length g.events) gs ++ record { first = i; zero = f.zero } ∷ []) before)

-- so many times the data has
times_held : (d : PageData) (files : List PageFile) (rest : List PageEvent) → Holds d files rest →
    length d.times.items ≡ d.ended + length rest
times_held d files rest h =
    ap length h.shown.times ∙ length-map (events_of files ++ rest) (λ e. e.shown.time)
    ∙ length-append (events_of files) rest ∙ ap (λ (n : ℕ). n + length rest) (sym h.ended)

-- where events of a file under way were told, it is that file that ended
pub rest_ended : (d new : PageData) (files : List PageFile) (rest : List PageEvent) → d.ended < length d.times.items →
    Holds d files rest → Holds new (files ++ record { events = rest; zero = None } ∷ []) [] →
    Holds new (with_rest files rest) []
rest_ended d new files [] lt h e = absurd (omega (arith, lt, times_held d files [] h))
rest_ended d new files (x ∷ xs) lt h e = e

-- where none were, nothing ended
pub nothing_ended : (d : PageData) (files : List PageFile) (rest : List PageEvent) →
    length d.times.items ≤ d.ended → Holds d files rest → Holds d (with_rest files rest) []
nothing_ended d files [] le h = h
nothing_ended d files (x ∷ xs) le h = absurd (omega (arith, le, times_held d files (x ∷ xs) h))
