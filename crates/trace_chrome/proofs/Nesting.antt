-- How many slices are open on a track.
use Rattle.std.proofs.Common.{◌≡◌, ◌≢◌, ◌<◌, ◌≤◌, ◌-◌, ℕ, zero, suc, ◌+◌, Bool, true, false, List, [], ◌∷◌, ◌++◌}
use Rattle.std.proofs.Common.{length, drop}
use Rattle.std.proofs.Common.{get_or, set, replicate, position, Option, Some, None, nat_eq, if◌then◌else◌, refl, sym}
use Rattle.std.proofs.Common.{ap, ◌∙◌, subst}
use Rattle.std.proofs.Common.{arith, bytes_eq}
use Rattle.std.specs.Option.{unwrap_or}
use Rattle.std.proofs.lemmas.Bool.{eq-eqb, eqb-true, eqb-false, ne_eqb}
use Rattle.std.proofs.lemmas.List.{get_or-set_same, get_or-set_other, set-get_or, length-drop}
use Rattle.std.proofs.lemmas.List.Quantifiers.{position-Some}
use Rattle.std.proofs.lemmas.List.Sums.{fold-append}
use Rattle.trace_chrome.specs.Entries.{Told, Entry, is_cut}
use Rattle.trace_chrome.specs.Entries as entries
use Rattle.trace_chrome.specs.Slices.{What, begins, ends, takes, happens, naming_by, naming, ends_by, own_by, tracks_by}
use Rattle.trace_chrome.specs.Slices.{closings_from}
use Rattle.trace_chrome.specs.Tracks.{Track, no_track, new_track, track_at, place_of, number_of, with_track_by}
use Rattle.trace_chrome.specs.Tracks.{with_track}
use Rattle.trace_chrome.specs.Tracks.{inside_of, begun, ended_by, ended}
use Rattle.trace_chrome.specs.Viewers.{told_in, closed_by, open_by, open_after, open_on}

-- how many slices are open on the track of a number
abbrev pub depth_of : List Track → ℕ → ℕ
depth_of ts k = length (track_at ts k).slices

-- ---- several ends

other_cuts :
    (k j at n d : ℕ) → nat_eq j k ≡ false → open_on k (Some d) (replicate n (is_cut j at)) ≡ Some d
other_cuts k j at zero d e = refl
other_cuts k j at (suc n) d e =
    ap (λ b. open_on k (closed_by b d) (replicate n (is_cut j at))) e ∙ other_cuts k j at n d e

own_cuts : (k at n d : ℕ) → open_on k (Some (n + d)) (replicate n (is_cut k at)) ≡ Some d
own_cuts k at zero d = let none : 0 + d ≡ d = omega arith in ap Some none
own_cuts k at (suc n) d =
    let more : suc n + d ≡ suc (n + d) = omega arith in
    ap (λ (m : ℕ). open_on k (Some m) (replicate (suc n) (is_cut k at))) more
    ∙ ap (λ b. open_on k (closed_by b (suc (n + d))) (replicate n (is_cut k at))) (eq-eqb k k refl) ∙ own_cuts k at n d

-- ---- the name of a track

named : (o : Option ℕ) (k d n at : ℕ) (name : List ℕ) → open_on k (Some d) (naming_by o n at name) ≡ Some d
named (Some i) k d n at name = refl
named None k d n at name = refl

new_last : (ts : List Track) (name : List ℕ) (k : ℕ) → depth_of (ts ++ new_track name ∷ []) k ≡ depth_of ts k
new_last [] name zero = refl
new_last [] name (suc k) = refl
new_last (t ∷ ts) name zero = refl
new_last (t ∷ ts) name (suc k) = new_last ts name k

placed : (o : Option ℕ) (ts : List Track) (name : List ℕ) (k : ℕ) → depth_of (with_track_by o name ts) k ≡ depth_of ts k
placed (Some i) ts name k = refl
placed None ts name k = new_last ts name k

longer : (ts : List Track) (t : Track) → length ts < length (ts ++ t ∷ [])
longer [] t = omega arith
longer (s ∷ ts) t = let l = longer ts t in omega (arith, l)

within :
    (o : Option ℕ) (ts : List Track) (name : List ℕ) → ((i : ℕ) → o ≡ Some i → i < length ts) →
    unwrap_or o (length ts) < length (with_track_by o name ts)
within (Some i) ts name h = h i refl
within None ts name h = longer ts (new_track name)

pub number-within : (name : List ℕ) (ts : List Track) → number_of name ts < length (with_track name ts)
number-within name ts =
    within (place_of name ts) ts name (λ i e. (position-Some (λ t. bytes_eq t.name name) ts i no_track e).0)

-- ---- an event's own entries

module _ (k j at : ℕ) (name : List ℕ) (told : Told) (ts : List Track) (lt : j < length ts) where
  abbrev t : Track
  t = track_at ts j

  begun_is :
      (group : List ℕ) (b : Bool) → nat_eq j k ≡ b →
      Some (if b then suc (depth_of ts k) else depth_of ts k) ≡ Some (depth_of (set ts j (begun group t)) k)
  begun_is group true e =
      let same : j ≡ k = eqb-true j k e in
      subst (λ (m : ℕ). Some (suc (depth_of ts m)) ≡ Some (depth_of (set ts j (begun group t)) m)) same
      (ap (λ (x : Track). Some (length x.slices)) (sym (get_or-set_same ts j (begun group t) no_track lt)))
  begun_is group false e =
      let differ : k ≢ j = λ is. eqb-false j k e (sym is) in
      ap (λ (x : Track). Some (length x.slices)) (sym (get_or-set_other ts j k (begun group t) no_track differ))

  ended_is :
      (n : ℕ) (b : Bool) → n < length t.slices → nat_eq j k ≡ b →
      open_on k (Some (depth_of ts k)) (replicate n (is_cut j at) ++ entries.ends j at told ∷ [])
      ≡ Some (depth_of (set ts j (ended_by (Some n) t)) k)
  ended_is n true less e =
      let same : j ≡ k = eqb-true j k e in
      let left = length (drop (n + 1) t.slices) in
      let long : left ≡ length t.slices - (n + 1) = length-drop (n + 1) t.slices in
      let parts : length t.slices ≡ n + suc left = omega (arith, long) in
      subst (λ (m : ℕ). open_on m (Some (depth_of ts m)) (replicate n (is_cut j at) ++ entries.ends j at told ∷ [])
      ≡ Some (depth_of (set ts j (ended_by (Some n) t)) m)) same
      (fold-append (open_after j) (Some (depth_of ts j)) (replicate n (is_cut j at)) (entries.ends j at told ∷ [])
      ∙ ap (λ (d : ℕ). open_on j (open_on j (Some d) (replicate n (is_cut j at))) (entries.ends j at told ∷ [])) parts
      ∙ ap (λ o. open_on j o (entries.ends j at told ∷ [])) (own_cuts j at n (suc left))
      ∙ ap (λ b. closed_by b (suc left)) (eq-eqb j j refl)
      ∙ ap (λ (x : Track). Some (length x.slices)) (sym (get_or-set_same ts j (ended_by (Some n) t) no_track lt)))
  ended_is n false less e =
      let differ : k ≢ j = λ is. eqb-false j k e (sym is) in
      fold-append (open_after k) (Some (depth_of ts k)) (replicate n (is_cut j at)) (entries.ends j at told ∷ [])
      ∙ ap (λ o. open_on k o (entries.ends j at told ∷ [])) (other_cuts k j at n (depth_of ts k) e)
      ∙ ap (λ b. closed_by b (depth_of ts k)) e
      ∙ ap (λ (x : Track). Some (length x.slices)) (sym (get_or-set_other ts j k (ended_by (Some n) t) no_track differ))

  ends_is :
      (group : List ℕ) (o : Option ℕ) → ((n : ℕ) → o ≡ Some n → n < length t.slices) →
      open_on k (Some (depth_of ts k)) (ends_by o j at group told) ≡ Some (depth_of (set ts j (ended_by o t)) k)
  ends_is group (Some n) h = ended_is n (nat_eq j k) (h n refl) refl
  ends_is group None h = ap (λ (x : List Track). Some (depth_of x k)) (sym (set-get_or ts j no_track))

  pub own_is :
      (w : What) → open_on k (Some (depth_of ts k)) (own_by w j t at name told) ≡ Some (depth_of (tracks_by w j ts) k)
  own_is (begins group) = begun_is group (nat_eq j k) refl
  own_is (ends group) =
      ends_is group (inside_of group t.slices)
      (λ n e. (position-Some (λ g. bytes_eq g group) t.slices n [] e).0)
  own_is (takes n) = refl
  own_is happens = refl

-- the entries of an event on the track of a name
pub event_is :
    (k at : ℕ) (where_ name : List ℕ) (told : Told) (w : What) (ts : List Track) →
    open_on k (Some (depth_of ts k)) (naming where_ at ts
    ++ own_by w (number_of where_ ts) (track_at (with_track where_ ts) (number_of where_ ts)) at name told)
    ≡ Some (depth_of (tracks_by w (number_of where_ ts) (with_track where_ ts)) k)
event_is k at where_ name told w ts =
    let j = number_of where_ ts in
    let all = with_track where_ ts in
    let own = own_by w j (track_at all j) at name told in
    fold-append (open_after k) (Some (depth_of ts k)) (naming where_ at ts) own
    ∙ ap (λ o. open_on k o own) (named (place_of where_ ts) k (depth_of ts k) j at where_)
    ∙ ap (λ (d : ℕ). open_on k (Some d) own) (sym (placed (place_of where_ ts) ts where_ k))
    ∙ own_is k j at name told all (number-within where_ ts) w

-- ---- the ends of what is open

below :
    (k at j d : ℕ) (ts : List Track) → k < j → open_on k (Some d) (closings_from at j ts) ≡ Some d
below k at j d [] lt = refl
below k at j d (t ∷ ts) lt =
    let more : k < j + 1 = omega arith in
    fold-append (open_after k) (Some d) (replicate (length t.slices) (is_cut j at)) (closings_from at (j + 1) ts)
    ∙ ap (λ o. open_on k o (closings_from at (j + 1) ts))
    (other_cuts k j at (length t.slices) d (ne_eqb j k (λ e. omega arith)))
    ∙ below k at (j + 1) d ts more

-- after the ends of all that is open nothing is open on a track
pub closed_is :
    (k at j i : ℕ) (ts : List Track) → k ≡ j + i → open_on k (Some (depth_of ts i)) (closings_from at j ts) ≡ Some 0
closed_is k at j i [] is = refl
closed_is k at j zero (t ∷ ts) is =
    let same : j ≡ k = omega arith in
    let more : k < j + 1 = omega arith in
    let all : length t.slices ≡ length t.slices + 0 = omega arith in
    fold-append (open_after k) (Some (length t.slices)) (replicate (length t.slices) (is_cut j at))
    (closings_from at (j + 1) ts)
    ∙ ap (λ o. open_on k o (closings_from at (j + 1) ts))
    (ap (λ (m : ℕ). open_on k (Some (length t.slices)) (replicate (length t.slices) (is_cut m at))) same
    ∙ ap (λ (d : ℕ). open_on k (Some d) (replicate (length t.slices) (is_cut k at))) all
    ∙ own_cuts k at (length t.slices) 0)
    ∙ below k at (j + 1) 0 ts more
closed_is k at j (suc i) (t ∷ ts) is =
    let next : k ≡ j + 1 + i = omega arith in
    fold-append (open_after k) (Some (depth_of ts i)) (replicate (length t.slices) (is_cut j at))
    (closings_from at (j + 1) ts)
    ∙ ap (λ o. open_on k o (closings_from at (j + 1) ts))
    (other_cuts k j at (length t.slices) (depth_of ts i) (ne_eqb j k (λ e. omega arith)))
    ∙ closed_is k at (j + 1) i ts next
