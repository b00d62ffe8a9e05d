-- Maps of texts that take little room, in which nothing is too long.
use Rattle.std.proofs.Common.{◌≡◌, ℕ, ◌+◌, ◌<◌, ◌≤◌, Bool, false, ◌||◌, List, [], ◌∷◌, length, take, get_or, ap, ap₂}
use Rattle.std.proofs.Common.{◌∙◌, refl, arith, Vec, Global}
use Rattle.std.proofs.lemmas.Bool.{le-ltb}
use Rattle.std.proofs.lemmas.List.{length-append}
use Rattle.std.specs.List.{flat_map}
use Rattle.trace_values.specs.Encoding.{exceeds_u32, any_text_exceeds_u32, is_too_long}
use Rattle.trace_values.specs.Limits.{greatest_u32}
use Rattle.trace_values.specs.Values.{Value, counted, text_pair, texts}
use Rattle.trace_values.specs.ValueViews.{text_pairs_view}
use Rattle.trace_values.proofs.RoomsFilled.{spelled, one_more, one_within, counted_length}

-- how much one pair more takes
pub one_taken : {X : Type 0} (seen : X → List ℕ × List ℕ) (xs : List X) (i : ℕ) {x : X} {k v : List ℕ} {room : ℕ}
    → i < length xs → x ≡ get_or xs i x → k ≡ (seen x).0 → v ≡ (seen x).1
    → room ≡ length (spelled seen (take i xs)) →
    room + (length k + length v + 8) ≡ length (spelled seen (take (i + 1) xs))
one_taken seen xs i {x} {k} {v} {room} lt is key value taken =
    omega (
      arith,
      taken,
      ap length (one_more seen xs i lt is key value),
      length-append (spelled seen (take i xs)) (text_pair (k, v)),
      length-append (counted k) (counted v),
      counted_length k,
      counted_length v,
    )

-- the room of all is no less
pub room_least : {X : Type 0} (seen : X → List ℕ × List ℕ) (xs : List X) (i : ℕ) {x : X} {k v : List ℕ} {room : ℕ}
    → i < length xs → x ≡ get_or xs i x → k ≡ (seen x).0 → v ≡ (seen x).1
    → room ≡ length (spelled seen (take i xs)) →
    room + (length k + length v + 8) ≤ length (spelled seen xs)
room_least seen xs i {x} {k} {v} {room} lt is key value taken =
    omega (arith, taken, one_within seen xs i lt is key value, counted_length k, counted_length v)

not_long : (n : ℕ) → n ≤ greatest_u32 → exceeds_u32 n ≡ false
not_long n le = le-ltb greatest_u32 n le

-- no text in a small room is long
no_text_long : (ps : List (List ℕ × List ℕ)) → length (flat_map text_pair ps) ≤ greatest_u32
    → any_text_exceeds_u32 ps ≡ false
no_text_long [] le = refl
no_text_long (p ∷ ps) le =
    let sum = length-append (text_pair p) (flat_map text_pair ps) in
    let both = length-append (counted p.0) (counted p.1) in
    ap₂ (λ (a b : Bool). a || b)
    (ap₂ (λ (a b : Bool). a || b)
    (not_long (length p.0) (omega (arith, le, sum, both, counted_length p.0, counted_length p.1)))
    (not_long (length p.1) (omega (arith, le, sum, both, counted_length p.0, counted_length p.1))))
    (no_text_long ps (omega (arith, le, sum)))

-- nor are there many of them
pairs_within : (ps : List (List ℕ × List ℕ)) → length ps ≤ length (flat_map text_pair ps)
pairs_within [] = omega arith
pairs_within (p ∷ ps) =
    omega (
      arith,
      length-append (text_pair p) (flat_map text_pair ps),
      length-append (counted p.0) (counted p.1),
      counted_length p.0,
      pairs_within ps,
    )

-- a map of texts that takes a small room is not too long
pub small_room : (ps : List (List ℕ × List ℕ)) → length (flat_map text_pair ps) ≤ greatest_u32
    → is_too_long (texts ps) ≡ false
small_room ps le =
    ap₂ (λ (a b : Bool). a || b) (not_long (length ps) (omega (arith, le, pairs_within ps))) (no_text_long ps le)

-- nor is a value that is such a map, whose pairs were seen as they are
pub room_short : {v : Value} {ps qs : List (Vec ℕ Global × Vec ℕ Global)} {room : ℕ} → v ≡ texts (text_pairs_view ps)
    → qs ≡ ps → (room ≤ greatest_u32) × (room ≡ length (flat_map text_pair (text_pairs_view qs)))
    → is_too_long v ≡ false
room_short {v} {ps} {qs} is same here =
    let taken = ap (λ (l : List (Vec ℕ Global × Vec ℕ Global)). length (flat_map text_pair (text_pairs_view l))) same in
    ap is_too_long is ∙ small_room (text_pairs_view ps) (omega (arith, here.0, here.1, taken))
