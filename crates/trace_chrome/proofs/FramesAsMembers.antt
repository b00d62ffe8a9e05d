-- Frames as members of an object.
use Rattle.std.proofs.Common.{◌≡◌, ◌<◌, ◌≤◌, ◌-◌, ℕ, ◌+◌, Result, Ok, Err, OnOk, List, [], ◌∷◌, ◌++◌, length, take}
use Rattle.std.proofs.Common.{drop, get_or, refl, sym, ap, ◌∙◌, arith}
use Rattle.std.proofs.Common.{append_assoc, decimal}
use Rattle.std.specs.List.{flat_map}
use Rattle.std.proofs.lemmas.List.{flat_map_more, take_more, drop_more, length-take-le}
use Rattle.json.specs.Json.{Json}
use Rattle.json.specs.Token.{Token, begin_object, end_object}
use Rattle.json.specs.Tree.{json_tokens, members_tokens}
use Rattle.trace_json.specs.EventJson.{members_of}
use Rattle.trace_json.specs.parts.Put.{member_tokens}
use Rattle.trace_chrome.specs.Frames.{Frame, number_of, with_frame, number_of_stack, with_stack, frame_json}
use Rattle.trace_chrome.specs.Frames.{frame_members}
use Rattle.trace_chrome.specs.Frames.{frames_json}

members_are :
    (ms : List (List ℕ × Json)) → members_tokens (members_of ms) ≡ flat_map member_tokens ms ++ end_object ∷ []
members_are [] = refl
members_are (m ∷ ms) =
    ap (λ (t : List Token). member_tokens m ++ t) (members_are ms)
    ∙ sym (append_assoc (member_tokens m) (flat_map member_tokens ms) (end_object ∷ []))

number : (k : ℕ) (g : Frame) (fs : List Frame) → k + 1 + length fs ≡ k + length (g ∷ fs)
number k g fs = omega arith

frame_members_more :
    (k : ℕ) (fs : List Frame) (f : Frame) →
    frame_members k (fs ++ f ∷ []) ≡ frame_members k fs ++ (decimal (k + length fs), frame_json f) ∷ []
frame_members_more k [] f =
    let same : k ≡ k + 0 = omega arith in ap (λ n. (decimal n, frame_json f) ∷ []) same
frame_members_more k (g ∷ fs) f =
    ap (λ l. (decimal k, frame_json g) ∷ l) (frame_members_more (k + 1) fs f)
    ∙ ap (λ n. ((decimal k, frame_json g) ∷ frame_members (k + 1) fs) ++ (decimal n, frame_json f) ∷ []) (number k g fs)

-- the members up to one more
pub frame_put :
    (fs : List Frame) (i : ℕ) (f : Frame) (start : List Token) {old new : List Token} → i < length fs →
    f ≡ get_or fs i f →
    old ≡ start ++ flat_map member_tokens (frame_members 1 (take i fs)) →
    new ≡ old ++ member_tokens (decimal (i + 1), frame_json f) →
    new ≡ start ++ flat_map member_tokens (frame_members 1 (take (i + 1) fs))
frame_put fs i f start lt is before after =
    let le : i ≤ length fs = omega arith in
    let long : 1 + length (take i fs) ≡ i + 1 = let n = length-take-le i fs le in omega (arith, n) in
    let all : frame_members 1 (take (i + 1) fs)
    ≡ frame_members 1 (take i fs) ++ (decimal (i + 1), frame_json f) ∷ [] =
    ap (frame_members 1) (take_more fs i f lt ∙ ap (λ x. take i fs ++ x ∷ []) (sym is))
    ∙ frame_members_more 1 (take i fs) f
    ∙ ap (λ n. frame_members 1 (take i fs) ++ (decimal n, frame_json f) ∷ []) long in
    after ∙ ap (λ (t : List Token). t ++ member_tokens (decimal (i + 1), frame_json f)) before
    ∙ flat_map_more member_tokens start (frame_members 1 (take i fs)) (decimal (i + 1), frame_json f)
    ∙ ap (λ l. start ++ flat_map member_tokens l) (sym all)

-- all of them, between braces
pub frames_put :
    {E : Type 0} (r : Result (Unit {0}) E) (fs : List Frame) (old : List Token) {one two : List Token}
    (new : List Token) →
    one ≡ old ++ begin_object ∷ [] → two ≡ one ++ flat_map member_tokens (frame_members 1 fs) →
    OnOk r (new ≡ two ++ end_object ∷ []) → OnOk r (new ≡ old ++ json_tokens (frames_json fs))
frames_put (Ok u) fs old new a b e =
    let inside = flat_map member_tokens (frame_members 1 fs) in
    e ∙ ap (λ (t : List Token). t ++ end_object ∷ []) (b ∙ ap (λ (t : List Token). t ++ inside) a)
    ∙ ap (λ (t : List Token). t ++ end_object ∷ []) (append_assoc old (begin_object ∷ []) inside)
    ∙ append_assoc old (begin_object ∷ inside) (end_object ∷ [])
    ∙ ap (λ (t : List Token). old ++ begin_object ∷ t) (sym (members_are (frame_members 1 fs)))
frames_put (Err x) fs old new a b e = tt

-- one address more of a stack, from its last on
pub one_put :
    (stack : List ℕ) (i : ℕ) (fs : List Frame) {n m : ℕ} {now new : List Frame} → 0 < i → i ≤ length stack →
    n ≡ number_of_stack (drop i stack) fs → now ≡ with_stack (drop i stack) fs →
    m ≡ number_of (n, get_or stack (i - 1) 0) now → new ≡ with_frame (n, get_or stack (i - 1) 0) now →
    (m ≡ number_of_stack (drop (i - 1) stack) fs) × (new ≡ with_stack (drop (i - 1) stack) fs)
one_put stack i fs {n} {m} {now} {new} some le number frames a b =
    let lt : i - 1 < length stack = omega arith in
    let back : i - 1 + 1 ≡ i = omega arith in
    let x = get_or stack (i - 1) 0 in
    let front : drop (i - 1) stack ≡ x ∷ drop i stack =
    drop_more stack (i - 1) 0 lt ∙ ap (λ k. x ∷ drop k stack) back in (
      a ∙ ap (λ k. number_of (k, x) now) number ∙ ap (number_of (number_of_stack (drop i stack) fs, x)) frames
          ∙ ap (λ l. number_of_stack l fs) (sym front),
      b ∙ ap (λ k. with_frame (k, x) now) number ∙ ap (with_frame (number_of_stack (drop i stack) fs, x)) frames
          ∙ ap (λ l. with_stack l fs) (sym front),
    )
