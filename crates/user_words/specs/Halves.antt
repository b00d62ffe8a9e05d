-- A trace that comes in two pieces, and frames that are pulled.
use Rattle.std.specs.Prelude.{◌≡◌, ◌⊎◌, ℕ, List, ◌++◌, map, Option, Result, Ok, Err, Vec}
use Rattle.std.specs.declared.alloc.Global.{Global}
use Rattle.dial9_trace_format.specs.Words.{DecoderState, IsOpened, DecodesAll, owned_reader, Item, item_of}
use Rattle.dial9_trace_format.specs.Words.{FeedState, new_feed, Feeds, Pushes, Pulls}
use Rattle.dial9_trace_format.specs.declared.decoder.decoded_frame.DecodedFrame.{DecodedFrame}
use Rattle.dial9_trace_format.specs.declared.decoder.error.DecodeError.{DecodeError}

-- the frames of both pieces, in order, are what a decoder of all the bytes gives
abbrev pub GivesAsWhole : List ℕ → List ℕ → Vec DecodedFrame Global × Vec DecodedFrame Global → Type 0
GivesAsWhole first second answers = (d new : DecoderState) (given : List Item) → IsOpened (first ++ second) d
    → DecodesAll owned_reader d new given
    → map item_of answers.0.items ++ map item_of answers.1.items ≡ given

-- a new decoder refuses the first piece so, or it takes that and refuses the second
abbrev pub RefusesHalves : List ℕ → List ℕ → DecodeError → Type 0
RefusesHalves first second e = ((mid : FeedState) × Feeds new_feed first mid (Err e))
    ⊎ ((mid new : FeedState) × (front : List Item) × Feeds new_feed first mid (Ok front)
    × Feeds mid second new (Err e))

-- a piece is kept, and then the next frame is pulled with this answer
abbrev pub PushesAndPulls : FeedState → List ℕ → FeedState → Result (Option Item) DecodeError → Type 0
PushesAndPulls old piece new answer = (mid : FeedState) × Pushes old piece mid (Ok tt) × Pulls mid new answer

-- a piece is refused so, or it is kept and the next frame is refused
abbrev pub RefusesNext : FeedState → List ℕ → FeedState → DecodeError → Type 0
RefusesNext old piece new e = Pushes old piece new (Err e) ⊎ PushesAndPulls old piece new (Err e)
