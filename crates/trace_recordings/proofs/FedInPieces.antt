-- Bytes that are fed piece by piece.
use Rattle.std.proofs.Common.{◌≡◌, ℕ, ◌<◌, List, [], ◌∷◌, ◌++◌, length, map, min, refl, ap, sym, ◌∙◌, append_assoc}
use Rattle.std.proofs.Common.{append-nil, Result, Option, Some, None, Ok, Err, suc, ◌≤◌, ◌-◌, ◌^◌, arith, Bor}
use Rattle.std.specs.Option.{option_and_then, option_map}
use Rattle.trace_wire.specs.Runs.{Item}
use Rattle.dial9_trace_format.specs.DecodedFrames.{item_of, next_as}
use Rattle.dial9_trace_format.specs.Feeding.{FeedState, new_feed}
use Rattle.dial9_trace_format.specs.Pieces.{Feedings, fed_items, shown_by}
use Rattle.dial9_trace_format.specs.declared.decoder.decoded_frame.DecodedFrame.{DecodedFrame}
use Rattle.dial9_trace_format.specs.declared.decoder.error.DecodeError.{DecodeError}
use Rattle.trace_recordings.specs.Pieces.{AreFedBy, FeedsOne, conflict_by, conflict_in}
use Rattle.trace_recordings.specs.Tallies.{counted_up}

-- Some pieces were fed, which gave these frames, and the rest is left: however that is fed, all was fed so.
abbrev pub FedSoFar : ℕ → List ℕ → List DecodedFrame → List ℕ → FeedState → Type 0
FedSoFar size trace frames rest now = (others : Feedings) (end : FeedState) → AreFedBy size now rest others end
    → (calls : Feedings) × AreFedBy size new_feed trace calls end
    × (fed_items calls ≡ map item_of frames ++ fed_items others)

-- nothing was fed
pub fed_none : (size : ℕ) (trace : List ℕ) → FedSoFar size trace [] trace new_feed
fed_none size trace = λ others end f. (others, f, refl)

-- a piece of the size is taken from the front, and fed
pub record TakesOne (size : ℕ) (frames after : List DecodedFrame) (rest left : List ℕ) (now next : FeedState) : Type
    0 where
  pub piece : List ℕ
  pub parts : rest ≡ piece ++ left
  pub some : 0 < length rest
  pub size_is : length piece ≡ min size (length rest)
  pub fed : FeedsOne now piece next frames after

-- one more piece is fed
pub fed_more : (size : ℕ) (trace : List ℕ) (frames after : List DecodedFrame) (rest left : List ℕ)
    (now next : FeedState) → FedSoFar size trace frames rest now → TakesOne size frames after rest left now next
    → FedSoFar size trace after left next
fed_more size trace frames after rest left now next so_far one = λ others end f.
    let given = one.fed in
    let all = so_far ((one.piece, given.0) ∷ others) end (left, one.parts, one.some, one.size_is, next, given.1, f) in (
      all.0,
      all.1,
      all.2 ∙ sym (append_assoc (map item_of frames) (shown_by given.0) (fed_items others))
          ∙ ap (λ (x : List Item). x ++ fed_items others) (sym given.2),
    )

-- nothing is left
pub fed_all : (size : ℕ) (trace : List ℕ) (frames : List DecodedFrame) (rest : List ℕ) (now : FeedState)
    → FedSoFar size trace frames rest now → rest ≡ []
    → (calls : Feedings) × AreFedBy size new_feed trace calls now × (map item_of frames ≡ fed_items calls)
fed_all size trace frames rest now so_far none =
    let all = so_far [] now (none, refl) in
    (all.0, all.1, sym (append-nil (map item_of frames)) ∙ sym all.2)

-- an answer tells the same conflict as its items do
pub told_as : (answer : Result (Option DecodedFrame) DecodeError) → conflict_in (next_as item_of answer)
    ≡ conflict_in answer
told_as (Ok (Some frame)) = refl
told_as (Ok None) = refl
told_as (Err error) = refl

-- the error that a fault points to tells the same conflict
pub pointed_to : (fault : Option (Bor DecodeError)) (e : Option DecodeError) → option_map (λ b. b.now) fault ≡ e
    → option_and_then (λ b. conflict_by b.now.kind) fault ≡ option_and_then (λ x. conflict_by x.kind) e
pointed_to None e is = ap (option_and_then (λ x. conflict_by x.kind)) is
pointed_to (Some b) e is = ap (option_and_then (λ x. conflict_by x.kind)) is

-- one is counted, and then the others
pub counts_on : {X : Type 0} (n k : ℕ) (s t : List X) (x : X) → s ≡ x ∷ t → counted_up n (length s) ≡ k
    → counted_up (counted_up n 1) (length t) ≡ k
counts_on n k s t x parts all =
    let sizes : length s ≡ suc (length t) = ap length parts in
    let one : counted_up (counted_up n 1) (length t) ≡ counted_up n (suc (length t)) = omega arith in
    one ∙ ap (counted_up n) (sym sizes) ∙ all

-- none is left to count
pub counts_none : {X : Type 0} (n k : ℕ) (s : List X) → s ≡ [] → n ≤ 2 ^ 64 - 1 → counted_up n (length s) ≡ k → n ≡ k
counts_none n k s none few all =
    let same : counted_up n 0 ≡ n = omega (arith, few) in
    sym same ∙ ap (counted_up n) (sym (ap length none)) ∙ all
