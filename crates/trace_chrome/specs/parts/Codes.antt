-- For private contracts: how tracks and sums are stored.
use Rattle.std.specs.Prelude.{ℕ, ℤ, List, refl}
use Rattle.std.specs.Coded.{Coded, code_by, coded×, coded_ℕ, coded_ℤ, coded_list}
use Rattle.trace_chrome.specs.Counters.{Sum}
use Rattle.trace_chrome.specs.Tracks.{Track}

abbrev pub coded_track : Coded Track
coded_track = code_by (List ℕ × List (List ℕ)) (coded× (coded_list coded_ℕ) (coded_list (coded_list coded_ℕ)))
    (λ t. (t.name, t.slices)) (λ p. record { name = p.0; slices = p.1 }) (λ _. refl)

abbrev pub coded_sum : Coded Sum
coded_sum = code_by (ℕ × (List ℕ × (List ℕ × ℤ)))
    (coded× coded_ℕ (coded× (coded_list coded_ℕ) (coded× (coded_list coded_ℕ) coded_ℤ)))
    (λ s. (s.counter.track, (s.counter.schema, (s.counter.field, s.total))))
    (λ p. record { counter = record { track = p.0; schema = p.1.0; field = p.1.1.0 }; total = p.1.1.1 }) (λ _. refl)
