-- A trace that comes in two pieces, and a piece without a frame, by the laws of pieces.
use Rattle.std.proofs.Common.{◌≡◌, ℕ, List, [], ◌∷◌, ◌++◌, Option, Some, None, Result, Ok, Err, refl, sym, subst}
use Rattle.std.proofs.Common.{append-nil, inl, inr}
use Rattle.std.specs.Prelude.{IfOk, IfErr, IfNone, option_map}
use Rattle.dial9_trace_format.specs.Words.{DecoderState, IsOpened, DecodesAll, owned_reader, Item, item_of, next_as}
use Rattle.dial9_trace_format.specs.Words.{FeedState, new_feed, Feeds, Feedings, AnyPieces, Pushes, Pulls, PullingFeeds}
use Rattle.dial9_trace_format.specs.declared.decoder.decoded_frame.DecodedFrame.{DecodedFrame}
use Rattle.dial9_trace_format.specs.declared.decoder.error.DecodeError.{DecodeError}
use Rattle.user_words.specs.Halves.{RefusesHalves, PushesAndPulls, RefusesNext}

-- what was answered of both pieces is what a decoder of all the bytes gives
pub as_whole :
    {first second : List ℕ} {start mid new : FeedState} {front others : List Item} → AnyPieces → start ≡ new_feed →
    Feeds start first mid (Ok front) → Feeds mid second new (Ok others) →
    (d last : DecoderState) (given : List Item) → IsOpened (first ++ second) d → DecodesAll owned_reader d last given →
    front ++ others ≡ given
as_whole {first} {second} {start} {mid} {new} {front} {others} law at one two d last given o h =
    let calls : Feedings = (first, Ok front) ∷ (second, Ok others) ∷ [] in
    let begun = subst (λ (s : FeedState). Feeds s first mid (Ok front)) at one in
    let fed = law calls new (mid, begun, (new, two, refl)) in
    let opened = subst (λ (x : List ℕ). IsOpened (first ++ x) d) (sym (append-nil second)) o in
    subst (λ (x : List Item). front ++ x ≡ given) (append-nil others) (fed.as_decoded d last given opened h)

-- where no frame comes of a piece that was pushed, feeding it would answer none
pub fed_alike :
    {old mid new : FeedState} {piece : List ℕ} (r : Result (Option DecodedFrame) DecodeError) → PullingFeeds →
    Pushes old piece mid (Ok tt) → Pulls mid new (next_as item_of r) →
    IfOk r (λ frame. IfNone frame (Feeds old piece new (Ok [])))
fed_alike {old} {mid} {new} {piece} (Ok None) law p q = law old mid new piece [] None p q
fed_alike (Ok (Some x)) law p q = tt
fed_alike (Err e) law p q = tt

-- a new decoder refuses the first piece
pub refuses_first :
    {first second : List ℕ} {start mid : FeedState} {e : DecodeError} → start ≡ new_feed →
    Feeds start first mid (Err e) → RefusesHalves first second e
refuses_first {first} {second} {start} {mid} {e} at one =
    inl (mid, subst (λ (s : FeedState). Feeds s first mid (Err e)) at one)

-- a new decoder takes the first piece, and refuses the second
pub refuses_second :
    {first second : List ℕ} {start mid new : FeedState} {front : List Item} {e : DecodeError} → start ≡ new_feed →
    Feeds start first mid (Ok front) → Feeds mid second new (Err e) → RefusesHalves first second e
refuses_second {first} {second} {start} {mid} {new} {front} {e} at one two =
    inr (mid, new, front, subst (λ (s : FeedState). Feeds s first mid (Ok front)) at one, two)

-- what was pulled after a piece that was pushed
pub pulled_after :
    {old mid new : FeedState} {piece : List ℕ} (r : Result (Option DecodedFrame) DecodeError) →
    Pushes old piece mid (Ok tt) → Pulls mid new (next_as item_of r) →
    IfOk r (λ frame. PushesAndPulls old piece new (Ok (option_map item_of frame)))
pulled_after {old} {mid} {new} {piece} (Ok None) p q = (mid, p, q)
pulled_after {old} {mid} {new} {piece} (Ok (Some x)) p q = (mid, p, q)
pulled_after (Err e) p q = tt

-- a pull that was refused, after a piece that was pushed
pub refused_after :
    {old mid new : FeedState} {piece : List ℕ} (r : Result (Option DecodedFrame) DecodeError) →
    Pushes old piece mid (Ok tt) → Pulls mid new (next_as item_of r) → IfErr r (RefusesNext old piece new)
refused_after (Ok x) p q = tt
refused_after {old} {mid} {new} {piece} (Err e) p q = inr (mid, p, q)
