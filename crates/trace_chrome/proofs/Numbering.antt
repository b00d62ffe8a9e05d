-- The numbers of entries have 64 bits.
use Rattle.std.proofs.Common.{◌≡◌, ◌<◌, ◌≤◌, ◌-◌, ℕ, zero, suc, ◌+◌, ◌*◌, ◌^◌, max, Bool, true, false, cond, not, ◌||◌}
use Rattle.std.proofs.Common.{List, [], ◌∷◌, ◌++◌, length, Option, Some, None, nat_lt, if◌then◌else◌, from_bits}
use Rattle.std.specs.Prelude.{⊤}
use Rattle.std.proofs.Common.{refl, sym, arith, codes, length-append, length-set, ltb-true, true≢false}
use Rattle.std.specs.List.{AllByRecursion, list_any, position_or_len}
use Rattle.std.specs.Float.{float_is_finite, float_round}
use Rattle.std.specs.Float.Ieee.{Float, binary64}
use Rattle.std.proofs.lemmas.List.Sums.{prefix_len-le-length}
use lib.Ieee.Casts.{to_unsigned-lt}
use Rattle.trace_values.specs.Values.{Value, integer, number, float}
use Rattle.dial9_trace_format.specs.ShownEvents.{ShownEvent}
use Rattle.trace_folded.specs.Stacks.{first_stack}
use Rattle.trace_roles.specs.Roles.{of_schema, note_of, field_with_role}
use Rattle.trace_chrome.specs.Frames.{Frame, frame_eq, with_frame, number_of as frame_number, with_stack}
use Rattle.trace_chrome.specs.Frames.{number_of_stack}
use Rattle.trace_chrome.specs.Labels.{natural_in, unit_of, unit_by, capped, times, float_length, length_in, length_of}
use Rattle.trace_chrome.specs.Labels.{value_at, track_name, what_by, what_of, is_lost, end_by, end_time}
use Rattle.trace_chrome.specs.Laws.{TakenEvent, tracks_over}
use Rattle.trace_chrome.specs.Sending.{first_time, last_time, frames_over}
use Rattle.trace_chrome.specs.Slices.{What, begins, ends, takes, happens, tracks_by}
use Rattle.trace_chrome.specs.Steps.{track_number, tracks_after, frames_by, frame_by, frames_after, frame_of}
use Rattle.trace_chrome.specs.Tracks.{Track, new_track, track_at, place_of, begun, ended, with_track_by, with_track}
use Rattle.trace_chrome.specs.Trees.{IsSmall}
use Rattle.trace_chrome.proofs.Nesting.{number-within}

-- ---- tracks

tracks_kept : (w : What) (k : ℕ) (ts : List Track) → length (tracks_by w k ts) ≡ length ts
tracks_kept (begins group) k ts = length-set ts k (begun group (track_at ts k))
tracks_kept (ends group) k ts = length-set ts k (ended group (track_at ts k))
tracks_kept (takes n) k ts = refl
tracks_kept happens k ts = refl

track_put : (o : Option ℕ) (name : List ℕ) (ts : List Track) → length ts ≤ length (with_track_by o name ts)
track_put (Some i) name ts = omega arith
track_put None name ts = omega (arith, length-append ts (new_track name ∷ []))

-- an event leaves all tracks, and its own is among them
event_tracks :
    (e : ShownEvent) (ts : List Track) →
    (length ts ≤ length (tracks_after e ts)) × (track_number e ts < length (tracks_after e ts))
event_tracks e ts =
    let kept = tracks_kept (what_of e) (track_number e ts) (with_track (track_name e) ts) in (
      omega (arith, kept, track_put (place_of (track_name e) ts) (track_name e) ts),
      omega (arith, kept, number-within (track_name e) ts),
    )

tracks_grow : (xs : List TakenEvent) (ts : List Track) → length ts ≤ length (tracks_over xs ts)
tracks_grow [] ts = omega arith
tracks_grow (x ∷ xs) ts = omega (arith, (event_tracks x.event ts).0, tracks_grow xs (tracks_after x.event ts))

-- the number of the track of the first of events
pub track_small :
    (x : TakenEvent) (xs : List TakenEvent) (ts : List Track) → IsSmall (length (tracks_over (x ∷ xs) ts)) →
    IsSmall (track_number x.event ts)
track_small x xs ts h =
    let after = tracks_after x.event ts in omega (arith, (event_tracks x.event ts).1, tracks_grow xs after, h)

-- ---- frames

found_by :
    (b c : Bool) (n m : ℕ) → (c ≡ true → n < m) → (b || c) ≡ true → cond (not b) (1 + n) 0 < suc m
found_by true c n m h e = omega arith
found_by false c n m h e = omega (arith, h e)

found : (p : Frame → Bool) (fs : List Frame) → list_any p fs ≡ true → position_or_len p fs < length fs
found p [] e = absurd (true≢false (sym e))
found p (f ∷ fs) e = found_by (p f) (list_any p fs) (position_or_len p fs) (length fs) (found p fs) e

number_by :
    (b : Bool) (f : Frame) (fs : List Frame) → list_any (frame_eq f) fs ≡ b →
    frame_number f fs ≤ length (if b then fs else fs ++ f ∷ [])
number_by true f fs e = omega (arith, found (frame_eq f) fs e)
number_by false f fs e =
    omega (arith, prefix_len-le-length (λ x. not (frame_eq f x)) fs, length-append fs (f ∷ []))

frame_put : (b : Bool) (f : Frame) (fs : List Frame) → length fs ≤ length (if b then fs else fs ++ f ∷ [])
frame_put true f fs = omega arith
frame_put false f fs = omega (arith, length-append fs (f ∷ []))

stack_put : (stack : List ℕ) (fs : List Frame) → length fs ≤ length (with_stack stack fs)
stack_put [] fs = omega arith
stack_put (x ∷ xs) fs =
    let f : Frame = (number_of_stack xs fs, x) in
    let inner = with_stack xs fs in
    omega (arith, stack_put xs fs, frame_put (list_any (frame_eq f) inner) f inner)

stack_within : (stack : List ℕ) (fs : List Frame) → number_of_stack stack fs ≤ length (with_stack stack fs)
stack_within [] fs = omega arith
stack_within (x ∷ xs) fs =
    let f : Frame = (number_of_stack xs fs, x) in
    number_by (list_any (frame_eq f) (with_stack xs fs)) f (with_stack xs fs) refl

-- each frame was called from one whose number has 64 bits
abbrev pub AreSmall : List Frame → Type 0
AreSmall fs = AllByRecursion (λ f. IsSmall f.0) fs

small_push : (fs : List Frame) (f : Frame) → AreSmall fs → IsSmall f.0 → AreSmall (fs ++ f ∷ [])
small_push [] f h k = (k, tt)
small_push (g ∷ gs) f h k = (h.0, small_push gs f h.1 k)

small_by : (b : Bool) (f : Frame) (fs : List Frame) → AreSmall fs → IsSmall f.0 →
    AreSmall (if b then fs else fs ++ f ∷ [])
small_by true f fs h k = h
small_by false f fs h k = small_push fs f h k

small_stack :
    (stack : List ℕ) (fs : List Frame) → IsSmall (length (with_stack stack fs)) → AreSmall fs →
    AreSmall (with_stack stack fs)
small_stack [] fs few h = h
small_stack (x ∷ xs) fs few h =
    let f : Frame = (number_of_stack xs fs, x) in
    let inner = with_stack xs fs in
    let less : IsSmall (length inner) = omega (arith, frame_put (list_any (frame_eq f) inner) f inner, few) in
    let parent : IsSmall (number_of_stack xs fs) = omega (arith, stack_within xs fs, less) in
    small_by (list_any (frame_eq f) inner) f inner (small_stack xs fs less h) parent

-- the same of a stack that an event may have
put_by : (o : Option (List ℕ)) (fs : List Frame) → length fs ≤ length (frames_by o fs)
put_by (Some stack) fs = stack_put stack fs
put_by None fs = omega arith

within_by : (o : Option (List ℕ)) (fs : List Frame) → frame_by o fs ≤ length (frames_by o fs)
within_by (Some stack) fs = stack_within stack fs
within_by None fs = omega arith

small_after :
    (o : Option (List ℕ)) (fs : List Frame) → IsSmall (length (frames_by o fs)) → AreSmall fs →
    AreSmall (frames_by o fs)
small_after (Some stack) fs few h = small_stack stack fs few h
small_after None fs few h = h

abbrev stack_of : ShownEvent → Option (List ℕ)
stack_of e = first_stack e.pools.stacks e.values

frames_grow : (es : List ShownEvent) (fs : List Frame) → length fs ≤ length (frames_over es fs)
frames_grow [] fs = omega arith
frames_grow (e ∷ es) fs = omega (arith, put_by (stack_of e) fs, frames_grow es (frames_after e fs))

-- the number of the frame of the first of events
pub frame_small :
    (e : ShownEvent) (es : List ShownEvent) (fs : List Frame) → IsSmall (length (frames_over (e ∷ es) fs)) →
    IsSmall (frame_of e fs)
frame_small e es fs few = omega (arith, within_by (stack_of e) fs, frames_grow es (frames_after e fs), few)

-- those of all frames
pub frames_small :
    (es : List ShownEvent) (fs : List Frame) → IsSmall (length (frames_over es fs)) → AreSmall fs →
    AreSmall (frames_over es fs)
frames_small [] fs few h = h
frames_small (e ∷ es) fs few h =
    let next = frames_after e fs in
    let less : IsSmall (length next) = omega (arith, frames_grow es next, few) in
    frames_small es next few (small_after (stack_of e) fs less h)

-- ---- times

capped_by : (b : Bool) (n : ℕ) → nat_lt n (2 ^ 64) ≡ b → IsSmall (if b then n else 2 ^ 64 - 1)
capped_by true n e = ltb-true n (2 ^ 64) e
capped_by false n e = omega arith

capped_small : (n : ℕ) → IsSmall (capped n)
capped_small n = capped_by (nat_lt n (2 ^ 64)) n refl

float_by : (b : Bool) (n : ℕ) → IsSmall n → IsSmall (if b then n else 0)
float_by true n h = h
float_by false n h = omega arith

float_small : (unit : ℕ) (x : Float) → IsSmall (float_length unit x)
float_small unit x =
    float_by (float_is_finite x) _ (to_unsigned-lt 64 (float_round binary64 (times unit x)))

length_small : (unit : ℕ) (v : Value) → IsSmall (length_in unit v)
length_small unit (number n) = capped_small (n * unit)
length_small unit (integer z) = capped_small (natural_in z * unit)
length_small unit (float bits) = float_small unit (from_bits binary64 bits)
length_small unit v = omega arith

length_by : (unit : ℕ) (o : Option Value) → IsSmall (length_of unit o)
length_by unit (Some v) = length_small unit v
length_by unit None = omega arith

-- the length of a slice, where an event is one
abbrev pub IsShortWhat : What → Type 0
IsShortWhat (takes n) = IsSmall n
IsShortWhat w = ⊤

what_by_short :
    (e : ShownEvent) (group other : Option (List ℕ)) (index : Option ℕ) → IsShortWhat (what_by e group other index)
what_by_short e (Some group) other index = tt
what_by_short e None (Some group) index = tt
what_by_short e None None (Some index) = length_by (unit_by (unit_of e.entry index)) (value_at e (Some index))
what_by_short e None None None = tt

lost_or : (b : Bool) (w : What) → IsShortWhat w → IsShortWhat (if b then happens else w)
lost_or true w h = tt
lost_or false w h = h

pub what_short : (e : ShownEvent) → IsShortWhat (what_of e)
what_short e =
    lost_or (is_lost e) _
    (what_by_short e (note_of e.entry of_schema (codes "begin")) (note_of e.entry of_schema (codes "end"))
    (field_with_role e.entry (codes "duration")))

end_small : (at : ℕ) (w : What) → IsSmall at → IsSmall (end_by at w)
end_small at (begins group) h = h
end_small at (ends group) h = h
end_small at (takes n) h = capped_small (at + n)
end_small at happens h = h

-- the greatest time when events end, and the first time
pub last_small :
    (n : ℕ) (es : List ShownEvent) → IsSmall n → AllByRecursion (λ e. IsSmall e.time) es → IsSmall (last_time n es)
last_small n [] h k = h
last_small n (e ∷ es) h k =
    let later : IsSmall (max n (end_time e)) = omega (arith, h, end_small e.time (what_of e) k.0) in
    last_small (max n (end_time e)) es later k.1

pub first_small : (es : List ShownEvent) → AllByRecursion (λ e. IsSmall e.time) es → IsSmall (first_time es)
first_small [] k = omega arith
first_small (e ∷ es) k = k.0
