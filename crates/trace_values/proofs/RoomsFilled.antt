-- Room that is filled from its front on, and how much of it texts take.
use Rattle.std.proofs.Common.{◌≡◌, ◌⊎◌, inl, inr, ℕ, ◌+◌, ◌-◌, ◌*◌, ◌^◌, ◌<◌, ◌≤◌, Bool, true, false, ◌&&◌, List, []}
use Rattle.std.proofs.Common.{◌∷◌, ◌++◌, length, take, drop, map, get_or, refl, sym, ap, ap₂, subst, ◌∙◌, Ok, Vec}
use Rattle.std.proofs.Common.{Global, append_assoc, arith, take-append-drop, length-take}
use Rattle.std.proofs.lemmas.Bool.{and_parts, false_from_ne_true}
use Rattle.std.proofs.lemmas.List.{length-append, length-take-le, length-drop, length-map, take_at, take_all}
use Rattle.std.proofs.lemmas.List.Folds.{list_all-map, list_all_at, list_all_more, flat_map-map, length-flat_map-take}
use Rattle.std.proofs.lemmas.Slice.{take-put_mid, drop-put_mid}
use Rattle.std.specs.List.{flat_map, list_all}
use borrow.Rule.Slice.PartMut.{put_mid, same_len_mid}
use Rattle.trace_values.specs.Encoding.{AppendsIf}
use Rattle.trace_values.specs.Limits.{most_items}
use Rattle.trace_values.specs.Spelling.{is_short, are_short_pairs, texts_fit, own_spelling}
use Rattle.trace_values.specs.ValueViews.{text_pairs_view}
use Rattle.trace_values.specs.Values.{counted, text_pair, u32, texts}
use Rattle.trace_values.proofs.AppendedInPieces.{pair_appended}
use Rattle.trace_values.proofs.ShortPairs.{first_tested, none_to_test, all_short, one_short}
use Rattle.trace_values.proofs.SpellingIsRead.{is_short-true}
use Rattle.trace_values.proofs.TestedItems.{too_many, not_many}

-- what was put after a front leaves as many bytes
pub put_length : (old bs : List ℕ) (at end : ℕ) → end ≡ at + length bs → end ≤ length old →
    length (take at old ++ bs ++ drop end old) ≡ length old
put_length old bs at end is le =
    omega (
      arith,
      is,
      le,
      length-append (take at old ++ bs) (drop end old),
      length-append (take at old) bs,
      length-take-le at old (omega (arith, is, le)),
      length-drop end old,
    )

-- and the front is one with it
pub put_front : (old bs : List ℕ) (at end : ℕ) → end ≡ at + length bs → end ≤ length old →
    take end (take at old ++ bs ++ drop end old) ≡ take at old ++ bs
put_front old bs at end is le =
    take_at (take at old ++ bs) (drop end old) end
    (omega (arith, is, length-append (take at old) bs, length-take-le at old (omega (arith, is, le))))

-- a length and its bytes, put one after the other, are the counted bytes between what was before and after them
pub counted_put : (old place part bs : List ℕ) (at : ℕ) → at + (4 + length bs) ≤ length old
    → place ≡ u32 (length bs) → part ≡ bs →
    put_mid (at + 4) (at + 4 + length bs - (at + 4)) (put_mid at (at + 4 - at) old place) part
    ≡ take at old ++ counted bs ++ drop (at + 4 + length bs) old
counted_put old place part bs at room is same =
    let k = at + 4 + length bs - (at + 4) in
    let mid = put_mid at (at + 4 - at) old place in
    let end = at + 4 + length bs in
    let new = put_mid (at + 4) k mid part in
    let four : length place ≡ 4 = ap length is in
    let many : length part ≡ length bs = ap length same in
    let len : length mid ≡ length old = same_len_mid at (at + 4 - at) old place
    (omega (arith, four, room, length-take (at + 4 - at) (drop at old), length-drop at old)) in
    let front : take end new ≡ (take at old ++ place) ++ part =
    take-put_mid (at + 4) k mid part end (omega (arith, many)) (omega (arith, len, room))
    ∙ ap (λ (l : List ℕ). l ++ part)
    (take-put_mid at (at + 4 - at) old place (at + 4) (omega (arith, four)) (omega (arith, room))) in
    let rest : drop end new ≡ drop end old =
    drop-put_mid (at + 4) k mid part end (omega arith) (omega (arith, len, room)) (omega (arith, many))
    ∙ drop-put_mid at (at + 4 - at) old place end (omega arith) (omega (arith, room)) (omega (arith, four)) in
    sym (take-append-drop end new) ∙ ap₂ (λ (a b : List ℕ). a ++ b) front rest
    ∙ ap (λ (l : List ℕ). l ++ drop end old) (append_assoc (take at old) place part
    ∙ ap₂ (λ (a b : List ℕ). take at old ++ (a ++ b)) is same)

-- the bytes of pairs of texts
abbrev pub spelled : {X : Type 0} → (X → List ℕ × List ℕ) → List X → List ℕ
spelled seen xs = flat_map text_pair (map seen xs)

-- the spelling of one more pair
pub one_more : {X : Type 0} (seen : X → List ℕ × List ℕ) (xs : List X) (i : ℕ) {x : X} {k v : List ℕ}
    → i < length xs → x ≡ get_or xs i x → k ≡ (seen x).0 → v ≡ (seen x).1 →
    spelled seen (take (i + 1) xs) ≡ spelled seen (take i xs) ++ text_pair (k, v)
one_more seen xs i lt is key value = sym (pair_appended seen xs i [] lt is refl key value refl)

-- so many bytes are left for a pair whose spelling is still to come
pub one_within : {X : Type 0} (seen : X → List ℕ × List ℕ) (xs : List X) (i : ℕ) {x : X} {k v : List ℕ}
    → i < length xs → x ≡ get_or xs i x → k ≡ (seen x).0 → v ≡ (seen x).1 →
    length (spelled seen (take i xs)) + length (counted k) + length (counted v) ≤ length (spelled seen xs)
one_within {X} seen xs i {x} {k} {v} lt is key value =
    let said : X → List ℕ = λ y. text_pair (seen y) in
    let all = λ (l : List X). ap length (flat_map-map text_pair seen l) in
    let one : length (counted k) + length (counted v) ≡ length (said (get_or xs i x)) =
    sym (length-append (counted k) (counted v))
    ∙ ap₂ (λ (a b : List ℕ). length (text_pair (a, b))) key value ∙ ap (λ y. length (said y)) is in
    omega (arith, length-flat_map-take said xs i x lt, all (take i xs), all xs, one)

-- the front of a room holds these bytes, and the room has so many
pub record FilledTo (room bytes : List ℕ) (at total : ℕ) : Type 0 where
  pub place : at ≡ length bytes
  pub front : take at room ≡ bytes
  pub long : length room ≡ total

-- bytes after their length were put at a place of a room
pub record PutCounted (old new bytes : List ℕ) (at end : ℕ) : Type 0 where
  pub put : new ≡ take at old ++ counted bytes ++ drop end old
  pub ends : end ≡ at + length (counted bytes)

-- what was filled up to a place is filled up to the end of what was put there
pub one_put : {old new bytes said : List ℕ} {at end total : ℕ} → FilledTo old said at total
    → PutCounted old new bytes at end → at + length (counted bytes) ≤ total →
    FilledTo new (said ++ counted bytes) end total
one_put {old} {new} {bytes} {said} {at} {end} {total} filled put le =
    let within : end ≤ length old = omega (arith, put.ends, filled.long, le) in
    record {
      place = omega (arith, put.ends, filled.place, length-append said (counted bytes));
      front = ap (take end) put.put ∙ put_front old (counted bytes) at end put.ends within
          ∙ ap (λ (l : List ℕ). l ++ counted bytes) filled.front;
      long = ap length put.put ∙ put_length old (counted bytes) at end put.ends within ∙ filled.long;
    }

-- the item at a place
abbrev pub IsItem : {X : Type 0} → List X → ℕ → X → Type 0
IsItem xs i x = (i < length xs) × (x ≡ get_or xs i x)

-- a pair was put after those before it
pub pair_put : {X : Type 0} (seen : X → List ℕ × List ℕ) (xs : List X) (i : ℕ) {x : X} {k v old mid new : List ℕ}
    {at middle end total : ℕ} → IsItem xs i x → k ≡ (seen x).0 → v ≡ (seen x).1
    → total ≡ length (spelled seen xs) → FilledTo old (spelled seen (take i xs)) at total
    → PutCounted old mid k at middle → PutCounted mid new v middle end →
    FilledTo new (spelled seen (take (i + 1) xs)) end total
pair_put seen xs i {x} {k} {v} {old} {mid} {new} {at} {middle} {end} {total} here key value sum filled first second =
    let within = one_within seen xs i here.0 here.1 key value in
    let half = one_put filled first (omega (arith, within, filled.place, sum)) in
    let whole = one_put half second (omega (arith, within, filled.place, first.ends, sum)) in
    subst (λ (l : List ℕ). FilledTo new l end total)
    (append_assoc (spelled seen (take i xs)) (counted k) (counted v)
    ∙ sym (one_more seen xs i here.0 here.1 key value)) whole

-- a room that is filled to its end holds all
pub all_put : {X : Type 0} (seen : X → List ℕ × List ℕ) (xs : List X) (i : ℕ) {room : List ℕ} {at total : ℕ}
    → length xs ≤ i → total ≡ length (spelled seen xs) → FilledTo room (spelled seen (take i xs)) at total →
    room ≡ spelled seen xs
all_put {X} seen xs i {room} {at} {total} done sum filled =
    let all : spelled seen (take i xs) ≡ spelled seen xs = ap (λ (l : List X). spelled seen l) (take_all i xs done) in
    sym (take_all at room (omega (arith, filled.place, filled.long, sum, ap length all))) ∙ filled.front ∙ all

-- what stands after its length takes four bytes more
pub counted_length : (s : List ℕ) → length (counted s) ≡ 4 + length s
counted_length s = length-append (u32 (length s)) s

-- how much texts take that can each stand after its length
short_within : (s : List ℕ) → is_short s ≡ true → length (counted s) ≤ 4294967299
short_within s e = omega (arith, counted_length s, (is_short-true s e).short)

-- how much pairs of them take at most
pub short_pairs_within : (ps : List (List ℕ × List ℕ)) → are_short_pairs ps ≡ true →
    length (flat_map text_pair ps) ≤ length ps * 8589934598
short_pairs_within [] e = omega arith
short_pairs_within (p ∷ ps) e =
    let both : ((is_short p.0 && is_short p.1) ≡ true) × (are_short_pairs ps ≡ true) =
    and_parts (is_short p.0 && is_short p.1) (are_short_pairs ps) (sym (first_tested p ps) ∙ e) in
    let one : (is_short p.0 ≡ true) × (is_short p.1 ≡ true) = and_parts (is_short p.0) (is_short p.1) both.0 in
    omega (
      arith,
      length-append (text_pair p) (flat_map text_pair ps),
      length-append (counted p.0) (counted p.1),
      short_within p.0 one.0,
      short_within p.1 one.1,
      short_pairs_within ps both.1,
    )

-- of few pairs that cannot be told, one cannot stand after its length
pub none_told : (ps : List (List ℕ × List ℕ)) → length ps ≤ most_items
    → (are_short_pairs ps ≡ false) ⊎ (2 ^ 64 ≤ length (flat_map text_pair ps)) → are_short_pairs ps ≡ false
none_told ps few (inl e) = e
none_told ps few (inr large) =
    false_from_ne_true (are_short_pairs ps) (λ e. omega (arith, short_pairs_within ps e, few, large))

-- whether pairs can stand each after its length, as one test after another
tested : {X : Type 0} (bytes : X → List ℕ) (xs : List (X × X)) → all_short bytes xs ≡ list_all (one_short bytes) xs
unfolding are_short_pairs
tested bytes xs = list_all-map (λ p. is_short p.0 && is_short p.1) (λ p. (bytes p.0, bytes p.1)) xs

-- where one pair cannot, not all can
pub not_short : {X : Type 0} (bytes : X → List ℕ) (xs : List (X × X)) (i : ℕ) {x : X × X} → i < length xs
    → x ≡ get_or xs i x → one_short bytes x ≡ false → all_short bytes xs ≡ false
not_short bytes xs i {x} lt is e =
    tested bytes xs ∙ list_all_at (one_short bytes) xs i x lt (ap (one_short bytes) (sym is) ∙ e)

-- how much the pairs so far take, each of which can stand after its length
pub record RoomTold {X : Type 0} (bytes : X → List ℕ) (xs : List (X × X)) (i room : ℕ) : Type 0 where
  pub taken : room ≡ length (spelled (λ p. (bytes p.0, bytes p.1)) (take i xs))
  pub short : all_short bytes (take i xs) ≡ true

-- nothing is taken before the first
pub none_taken : {X : Type 0} (bytes : X → List ℕ) (xs : List (X × X)) → RoomTold bytes xs 0 0
none_taken bytes xs = record { taken = refl; short = none_to_test }

-- how much a text takes that can stand after its length
abbrev pub TextTold : List ℕ → ℕ → Type 0
TextTold s room = (is_short s ≡ true) × (room ≡ length (counted s))

-- one pair more
pub one_told : {X : Type 0} (bytes : X → List ℕ) (xs : List (X × X)) (i : ℕ) {x : X × X} {k v : List ℕ}
    {room key value more : ℕ} → IsItem xs i x → k ≡ bytes x.0 → v ≡ bytes x.1
    → TextTold k key → TextTold v value → more ≡ room + (key + value) → RoomTold bytes xs i room →
    RoomTold bytes xs (i + 1) more
one_told {X} bytes xs i {x} {k} {v} {room} {key} {value} {more} here ek ev tk tv sum told =
    let seen : X × X → List ℕ × List ℕ = λ p. (bytes p.0, bytes p.1) in
    let both : one_short bytes x ≡ true =
    ap₂ (λ (a b : List ℕ). is_short a && is_short b) (sym ek) (sym ev)
    ∙ ap₂ (λ (a b : Bool). a && b) tk.0 tv.0 in
    record {
      taken = omega (
        arith,
        sum,
        told.taken,
        tk.1,
        tv.1,
        ap length (one_more seen xs i here.0 here.1 ek ev),
        length-append (spelled seen (take i xs)) (text_pair (k, v)),
        length-append (counted k) (counted v),
      );
      short = tested bytes (take (i + 1) xs) ∙ list_all_more (one_short bytes) xs i x here.0
          ∙ ap₂ (λ (a b : Bool). a && b) (sym (tested bytes (take i xs)) ∙ told.short)
          (ap (one_short bytes) (sym here.1) ∙ both);
    }

-- all pairs
pub all_told : {X : Type 0} (bytes : X → List ℕ) (xs : List (X × X)) (i : ℕ) {room : ℕ} → length xs ≤ i
    → RoomTold bytes xs i room →
    (all_short bytes xs ≡ true) × (room ≡ length (spelled (λ p. (bytes p.0, bytes p.1)) xs))
all_told {X} bytes xs i {room} done told =
    let all = take_all i xs done in (
      ap (λ (l : List (X × X)). all_short bytes l) (sym all) ∙ told.short,
      told.taken
          ∙ ap (λ (l : List (X × X)). length (spelled (λ p. (bytes p.0, bytes p.1)) l)) all,
    )

and_false : (b : Bool) → (b && false) ≡ false
and_false true = refl
and_false false = refl

-- a first part that cannot stand after its length, and a second one
pub key_long : {X : Type 0} (bytes : X → List ℕ) (x : X × X) {k : List ℕ} → k ≡ bytes x.0 → is_short k ≡ false
    → one_short bytes x ≡ false
key_long bytes x key e = ap (λ (b : Bool). b && is_short (bytes x.1)) (ap is_short (sym key) ∙ e)

-- a long value is not short, whatever its key is
pub value_long : {X : Type 0} (bytes : X → List ℕ) (x : X × X) {v : List ℕ} → v ≡ bytes x.1 → is_short v ≡ false
    → one_short bytes x ≡ false
value_long bytes x value e =
    ap (λ (b : Bool). is_short (bytes x.0) && b) (ap is_short (sym value) ∙ e) ∙ and_false (is_short (bytes x.0))

-- room that was made after bytes which stay
pub record RoomMade (old made : List ℕ) (room : ℕ) : Type 0 where
  pub long : length made ≡ length old + room
  pub front : take (length old) made ≡ old

-- bytes of any kind that were appended up to a length
pub room_made : {old made : List ℕ} (ys : List ℕ) {end room : ℕ} → end ≡ length old + room → made ≡ take end old ++ ys
    → length made ≡ end → RoomMade old made room
room_made {old} {made} ys {end} {room} sum is len =
    record {
      long = len ∙ sum;
      front = ap (take (length old)) (is ∙ ap (λ (l : List ℕ). l ++ ys) (take_all end old (omega (arith, sum))))
          ∙ take_at old ys (length old) refl;
    }

-- the room that was made, when it is filled
pub room_filled : {old made : List ℕ} (filled : List ℕ) {room : ℕ} → RoomMade old made room → length filled ≡ room →
    put_mid (length old) (length made - length old) made filled ≡ old ++ filled
room_filled {old} {made} filled {room} here len =
    let start = length old in
    let k = length made - start in
    let whole = put_mid start k made filled in
    let long : length whole ≡ length made = same_len_mid start k made filled
    (omega (arith, here.long, len, length-take k (drop start made), length-drop start made)) in
    sym (take_all (start + length filled) whole (omega (arith, long, here.long, len)))
    ∙ take-put_mid start k made filled (start + length filled) refl (omega (arith, here.long))
    ∙ ap (λ (l : List ℕ). l ++ filled) here.front

-- more pairs than the most are refused
pub many_refused : (ps : List (List ℕ × List ℕ)) (n : ℕ) (old : List ℕ) → length ps ≡ n → most_items < n →
    AppendsIf (texts_fit ps) (own_spelling (texts ps)) old old (Ok false)
many_refused ps n old same h = (too_many n (length ps) (are_short_pairs ps) same h, refl)

-- and so are pairs whose room cannot be told
pub untold_refused : (ps qs : List (List ℕ × List ℕ)) (n : ℕ) (old : List ℕ) → qs ≡ ps → length ps ≡ n
    → n ≤ most_items → (are_short_pairs qs ≡ false) ⊎ (2 ^ 64 ≤ length (flat_map text_pair qs)) →
    AppendsIf (texts_fit ps) (own_spelling (texts ps)) old old (Ok false)
untold_refused ps qs n old as_given same h none =
    let told = none_told qs (omega (arith, ap length as_given, same, h)) none in
    (not_many n (length ps) (are_short_pairs ps) same h ∙ ap are_short_pairs (sym as_given) ∙ told, refl)

-- pairs whose room is told fit
pub told_fit : (ps : List (List ℕ × List ℕ)) (n : ℕ) → length ps ≡ n → n ≤ most_items → are_short_pairs ps ≡ true →
    texts_fit ps ≡ true
told_fit ps n same h short = not_many n (length ps) (are_short_pairs ps) same h ∙ short

-- their count was appended, and then all of them
pub told_pushed : (ps : List (List ℕ × List ℕ)) (n : ℕ) (old mid new : List ℕ) → length ps ≡ n
    → mid ≡ old ++ u32 n → new ≡ mid ++ flat_map text_pair ps → new ≡ old ++ own_spelling (texts ps)
told_pushed ps n old mid new same count all =
    all ∙ ap (λ (l : List ℕ). l ++ flat_map text_pair ps) (count ∙ ap (λ (m : ℕ). old ++ u32 m) (sym same))
    ∙ append_assoc old (u32 (length ps)) (flat_map text_pair ps)

-- a key that is still to be put ends within the room
pub key_within : {X : Type 0} (seen : X → List ℕ × List ℕ) (xs : List X) (i : ℕ) {x : X} {k room : List ℕ}
    {at total : ℕ} → i < length xs → x ≡ get_or xs i x → k ≡ (seen x).0 → total ≡ length (spelled seen xs)
    → FilledTo room (spelled seen (take i xs)) at total →
    at + length (counted k) ≤ length room
key_within seen xs i {x} {k} lt is key sum filled =
    let within = one_within seen xs i {x = x} {k = k} {v = (seen x).1} lt is key refl in
    omega (arith, within, filled.place, filled.long, sum)

-- and so does its value
pub value_within : {X : Type 0} (seen : X → List ℕ × List ℕ) (xs : List X) (i : ℕ) {x : X} {k v old mid : List ℕ}
    {at middle total : ℕ} → i < length xs → x ≡ get_or xs i x → k ≡ (seen x).0 → v ≡ (seen x).1
    → total ≡ length (spelled seen xs) → FilledTo old (spelled seen (take i xs)) at total
    → PutCounted old mid k at middle →
    middle + length (counted v) ≤ length mid
value_within seen xs i {x} {k} {v} {old} {mid} {at} {middle} {total} lt is key value sum filled put =
    let within = one_within seen xs i lt is key value in
    let half = one_put filled put (omega (arith, within, filled.place, sum)) in
    omega (arith, within, filled.place, put.ends, half.long, sum)

-- how much a pair takes whose room is told
pub sum_within : (k v : List ℕ) {key value : ℕ} → TextTold k key → TextTold v value → key + value ≤ 8589934598
sum_within k v tk tv = omega (arith, short_within k tk.0, short_within v tv.0, tk.1, tv.1)

-- the room of all takes no less than that of a pair and of those before it
pub room_within : {X : Type 0} (bytes : X → List ℕ) (xs : List (X × X)) (i : ℕ) {x : X × X} {k v : List ℕ}
    {room key value : ℕ} → i < length xs → x ≡ get_or xs i x → k ≡ bytes x.0 → v ≡ bytes x.1
    → TextTold k key → TextTold v value → RoomTold bytes xs i room →
    room + (key + value) ≤ length (spelled (λ p. (bytes p.0, bytes p.1)) xs)
room_within bytes xs i lt is ek ev tk tv told =
    omega (arith, one_within (λ p. (bytes p.0, bytes p.1)) xs i lt is ek ev, told.taken, tk.1, tv.1)

-- as many pairs are seen as there are
pub as_many : (ps : List (Vec ℕ Global × Vec ℕ Global)) → length (text_pairs_view ps) ≡ length ps
as_many ps = length-map ps _
