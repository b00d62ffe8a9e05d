-- The ends of slices that are open on tracks.
use Rattle.std.proofs.Common.{◌≡◌, ◌<◌, ◌≤◌, ℕ, ◌+◌, List, [], ◌∷◌, ◌++◌, length, replicate, take, get_or, sym, ap}
use Rattle.std.proofs.Common.{◌∙◌, arith, append_assoc, append-nil}
use Rattle.std.specs.List.{flat_map}
use Rattle.std.proofs.lemmas.List.{take_more, length-take-le}
use Rattle.std.proofs.lemmas.Grind.{flat_map-append}
use Rattle.trace_chrome.specs.Tracks.{Track}
use Rattle.trace_chrome.specs.Entries.{Entry, entry_text, entries_text, is_cut}
use Rattle.trace_chrome.specs.Slices.{closings_from, closings}

abbrev cuts : ℕ → ℕ → Track → List Entry
cuts at k t = replicate (length t.slices) (is_cut k at)

number : (k : ℕ) (s : Track) (ts : List Track) → k + 1 + length ts ≡ k + length (s ∷ ts)
number k s ts = omega arith

closings_more :
    (at k : ℕ) (ts : List Track) (t : Track) →
    closings_from at k (ts ++ t ∷ []) ≡ closings_from at k ts ++ cuts at (k + length ts) t
closings_more at k [] t =
    let same : k ≡ k + 0 = omega arith in append-nil (cuts at k t) ∙ ap (λ n. cuts at n t) same
closings_more at k (s ∷ ts) t =
    ap (λ l. cuts at k s ++ l) (closings_more at (k + 1) ts t)
    ∙ sym (append_assoc (cuts at k s) (closings_from at (k + 1) ts) (cuts at (k + 1 + length ts) t))
    ∙ ap (λ n. (cuts at k s ++ closings_from at (k + 1) ts) ++ cuts at n t) (number k s ts)

length_take : (ts : List Track) (i : ℕ) → i < length ts → length (take i ts) ≡ i
length_take ts i lt = let le : i ≤ length ts = omega arith in length-take-le i ts le

-- the tracks up to one more
pub track_closed :
    (from at : ℕ) (ts : List Track) (i : ℕ) (old : List ℕ) {mid new : List ℕ} (t : Track) → i < length ts →
    t ≡ get_or ts i t → mid ≡ old ++ entries_text from (closings at (take i ts)) →
    new ≡ mid ++ entries_text from (cuts at i t) → new ≡ old ++ entries_text from (closings at (take (i + 1) ts))
track_closed from at ts i old t lt is first e =
    let f = entry_text from in
    let done = closings at (take i ts) in
    let number_is : 0 + length (take i ts) ≡ i = let n = length_take ts i lt in omega (arith, n) in
    let all : closings at (take (i + 1) ts) ≡ done ++ cuts at i t =
    ap (closings at) (take_more ts i t lt ∙ ap (λ x. take i ts ++ x ∷ []) (sym is))
    ∙ closings_more at 0 (take i ts) t ∙ ap (λ n. done ++ cuts at n t) number_is in
    e ∙ ap (λ x. x ++ flat_map f (cuts at i t)) first ∙ append_assoc old (flat_map f done) (flat_map f (cuts at i t))
    ∙ ap (λ x. old ++ x) (sym (flat_map-append f done (cuts at i t))) ∙ ap (λ l. old ++ flat_map f l) (sym all)
