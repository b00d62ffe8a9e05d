-- What the entries of events tell, and how many slices they leave open.
use Rattle.std.proofs.Common.{◌≡◌, ℕ, zero, suc, List, [], ◌∷◌, ◌++◌, ◌+◌, length, replicate, Option, Some, None}
use Rattle.std.proofs.Common.{refl, ap, ◌∙◌, arith}
use Rattle.std.specs.List.{flat_map, AllByRecursion}
use Rattle.std.proofs.lemmas.Grind.{flat_map-append}
use Rattle.std.proofs.lemmas.List.Sums.{fold-append}
use Rattle.dial9_trace_format.specs.ShownEvents.{ShownEvent}
use Rattle.trace_chrome.specs.Counters.{Sum, counter_at, count_entries, AreCountsOfFirst}
use Rattle.trace_chrome.specs.Entries.{Told, Entry, is_cut}
use Rattle.trace_chrome.specs.Labels.{what_of, track_name, event_name}
use Rattle.trace_chrome.specs.Laws.{IsToldOnce, TakenEvent, HasCounts, entries_over, tracks_over, SlicesNest}
use Rattle.trace_chrome.specs.Slices.{What, begins, ends, takes, happens, naming_by, naming, ends_by, own_by, closings}
use Rattle.trace_chrome.specs.Steps.{track_number, entries_of, tracks_after}
use Rattle.trace_chrome.specs.Tracks.{Track, place_of, with_track, track_at, inside_of}
use Rattle.trace_chrome.specs.Viewers.{told_in, open_after, open_on}
use Rattle.trace_chrome.proofs.Nesting.{depth_of, event_is, closed_is}

-- ---- what is told

named_tells : (o : Option ℕ) (n at : ℕ) (name : List ℕ) → flat_map told_in (naming_by o n at name) ≡ []
named_tells (Some i) n at name = refl
named_tells None n at name = refl

cuts_tell : (j at n : ℕ) → flat_map told_in (replicate n (is_cut j at)) ≡ []
cuts_tell j at zero = refl
cuts_tell j at (suc n) = cuts_tell j at n

ends_tell :
    (o : Option ℕ) (j at : ℕ) (group : List ℕ) (told : Told) →
    flat_map told_in (ends_by o j at group told) ≡ told ∷ []
ends_tell (Some n) j at group told =
    flat_map-append told_in (replicate n (is_cut j at)) _ ∙ ap (λ (l : List Told). l ++ told ∷ []) (cuts_tell j at n)
ends_tell None j at group told = refl

own_tells :
    (w : What) (j : ℕ) (t : Track) (at : ℕ) (name : List ℕ) (told : Told) →
    flat_map told_in (own_by w j t at name told) ≡ told ∷ []
own_tells (begins group) j t at name told = refl
own_tells (ends group) j t at name told = ends_tell (inside_of group t.slices) j at group told
own_tells (takes n) j t at name told = refl
own_tells happens j t at name told = refl

pub told_once : IsToldOnce
told_once told e ts =
    let j = track_number e ts in
    let own = own_by (what_of e) j (track_at (with_track (track_name e) ts) j) e.time (event_name e) told in
    flat_map-append told_in (naming (track_name e) e.time ts) own
    ∙ ap (λ (l : List Told). l ++ flat_map told_in own)
    (named_tells (place_of (track_name e) ts) j e.time (track_name e))
    ∙ own_tells (what_of e) j (track_at (with_track (track_name e) ts) j) e.time (event_name e) told

-- ---- what is open

module _ (k d : ℕ) where
  one_count : (at : ℕ) (e : ShownEvent) (track n : ℕ) (o : Option (List ℕ)) →
      open_on k (Some d) (count_entries at (counter_at e track n) o) ≡ Some d
  one_count at e track n (Some text) = refl
  one_count at e track n None = refl

  counts_leave :
      (e : ShownEvent) (track at : ℕ) (sums : List Sum) (n : ℕ) (es : List Entry) →
      AreCountsOfFirst e track at sums n es → open_on k (Some d) es ≡ Some d
  counts_leave e track at sums zero es h = ap (open_on k (Some d)) h
  counts_leave e track at sums (suc n) es h =
      let before = h.0 in
      let one = count_entries at (counter_at e track n) h.1 in
      ap (open_on k (Some d)) h.4 ∙ fold-append (open_after k) (Some d) before one
      ∙ ap (λ o. open_on k o one) (counts_leave e track at sums n before h.2)
      ∙ one_count at e track n h.1

events_leave :
    (k : ℕ) (xs : List TakenEvent) (ts : List Track) → AllByRecursion HasCounts xs →
    open_on k (Some (depth_of ts k)) (entries_over xs ts) ≡ Some (depth_of (tracks_over xs ts) k)
events_leave k [] ts h = refl
events_leave k (x ∷ xs) ts h =
    let e = x.event in
    let own = entries_of x.told e ts in
    let after = tracks_after e ts in
    fold-append (open_after k) (Some (depth_of ts k)) (own ++ x.counts) (entries_over xs after)
    ∙ ap (λ o. open_on k o (entries_over xs after))
    (fold-append (open_after k) (Some (depth_of ts k)) own x.counts
    ∙ ap (λ o. open_on k o x.counts) (event_is k e.time (track_name e) (event_name e) x.told (what_of e) ts)
    ∙ counts_leave k (depth_of after k) e h.0.0 h.0.1 h.0.2 (length e.values) x.counts h.0.3)
    ∙ events_leave k xs after h.1

pub slices_nest : SlicesNest
slices_nest xs at k h =
    fold-append (open_after k) (Some 0) (entries_over xs []) (closings at (tracks_over xs []))
    ∙ ap (λ o. open_on k o (closings at (tracks_over xs []))) (events_leave k xs [] h)
    ∙ closed_is k at 0 k (tracks_over xs []) (omega arith)
