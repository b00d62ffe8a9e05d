-- What is given of a trace that is fed in pieces, beside what is given of it whole.
use Rattle.std.specs.Prelude.{◌≡◌, ◌⊎◌, ℕ, ◌<◌, true, List, [], ◌∷◌, ◌++◌, length, map, min, Option, Some, None}
use Rattle.std.specs.Prelude.{Result, Ok, Err, IfSome}
use Rattle.std.specs.Cmp.Lexicographic.{pointwise}
use Rattle.std.specs.FinMap as maps
use Rattle.std.specs.Option.{option_and_then}
use Rattle.trace_values.specs.Values.{owned_reader}
use Rattle.trace_wire.specs.Frames.{Grammar}
use Rattle.trace_wire.specs.Runs.{Item}
use Rattle.dial9_trace_format.specs.DecodedFrames.{item_of, same_item}
use Rattle.dial9_trace_format.specs.Decoding.{DecoderState, DecodesAll, IsHeadless, NextAfter, NextFrame}
use Rattle.dial9_trace_format.specs.Feeding.{FeedState, Feeds, new_feed}
use Rattle.dial9_trace_format.specs.Pieces.{Feedings, fed_items, shown_by}
use Rattle.dial9_trace_format.specs.WrittenTraces.{IsOpened}
use Rattle.dial9_trace_format.specs.declared.decoder.error.DecodeError.{DecodeError}
use Rattle.dial9_trace_format.specs.declared.decoder.error.DecodeErrorKind.{DecodeErrorKind}
use Rattle.dial9_trace_format.specs.declared.decoder.error.DecodeErrorKind.TheVariants as kinds
use Rattle.dial9_trace_format.specs.declared.decoder.decoded_frame.DecodedFrame.{DecodedFrame}
use Rattle.trace_recordings.specs.declared.pieces.Given.{Given}
use Rattle.trace_recordings.specs.Tallies.{counted_up}

-- the sizes of pieces
abbrev pub piece_sizes : List ℕ
piece_sizes = 1 ∷ 2 ∷ 3 ∷ 5 ∷ 4096 ∷ []

-- the frames that were given, each as its item
abbrev pub items_given : Given → List Item
items_given g = map item_of g.frames.items

-- the wire id of the schema that an error tells to conflict
abbrev pub conflict_by : DecodeErrorKind → Option ℕ
conflict_by (kinds.Conflict id) = Some id.0
conflict_by kind = None

abbrev pub conflict_in : {T : Type 0} → Result T DecodeError → Option ℕ
conflict_in (Ok x) = None
conflict_in (Err e) = conflict_by e.kind

-- how many wire ids have a schema, up to the greatest number of 64 bits
abbrev pub schema_count : Grammar → ℕ
schema_count g = counted_up 0 (length (maps.entries g.wire_types))

-- what a decoder answers that is asked for one more frame: by which conflict it has failed, if by one
abbrev pub AnswersNext : DecoderState → Option ℕ → Type 0
AnswersNext d conflict = (after : DecoderState) × (answer : Result (Option Item) DecodeError)
    × (d.failure ≡ None → NextFrame owned_reader d after answer) × IfSome d.failure (λ f. NextAfter f d after answer)
    × (conflict ≡ conflict_in answer)

-- all frames that a decoder of the whole trace gives, and where it stands then
pub record IsGivenWhole (trace : List ℕ) (g : Given) : Type 0 where
  pub opened : DecoderState
  pub opens : IsOpened trace opened
  pub end : DecoderState
  pub all : DecodesAll owned_reader opened end (items_given g)
  pub position : g.position ≡ end.position
  pub schemas : g.schemas ≡ schema_count end.grammar
  pub conflict : AnswersNext end g.conflict

-- no header stands at the front of the trace, and nothing is given of it
pub record GivesNothing (trace : List ℕ) (g : Given) : Type 0 where
  pub headless : IsHeadless trace
  pub none : items_given g ≡ []
  pub position : g.position ≡ 0
  pub schemas : g.schemas ≡ 0
  pub conflict : g.conflict ≡ None

abbrev pub GivesWhole : List ℕ → Given → Type 0
GivesWhole trace g = GivesNothing trace g ⊎ IsGivenWhole trace g

-- a piece is fed, and the frames that are given come after those that were given before
abbrev pub FeedsOne : FeedState → List ℕ → FeedState → List DecodedFrame → List DecodedFrame → Type 0
FeedsOne old piece new before after = (answer : Result (List Item) DecodeError) × Feeds old piece new answer
    × (map item_of after ≡ map item_of before ++ shown_by answer)

-- bytes are fed in pieces of this size, the last with what is left
abbrev pub AreFedBy : ℕ → FeedState → List ℕ → Feedings → FeedState → Type 0
AreFedBy size old bytes [] new = (bytes ≡ []) × (new ≡ old)
AreFedBy size old bytes (call ∷ calls) new = (rest : List ℕ) × (bytes ≡ call.0 ++ rest) × (0 < length bytes)
    × (length call.0 ≡ min size (length bytes))
    × (mid : FeedState) × Feeds old call.0 mid call.1 × AreFedBy size mid rest calls new

-- all frames that a decoder gives which is fed the trace in pieces of this size, and where it stands then
pub record GivesInPieces (trace : List ℕ) (size : ℕ) (g : Given) : Type 0 where
  pub calls : Feedings
  pub end : FeedState
  pub fed : AreFedBy size new_feed trace calls end
  pub all : items_given g ≡ fed_items calls
  pub position : g.position ≡ end.position
  pub schemas : g.schemas ≡ schema_count end.grammar
  pub conflict : g.conflict ≡ option_and_then (λ e. conflict_by e.kind) end.fault

-- equal frames were given, and the ends are equal
abbrev pub IsGivenSame : Given → Given → Type 0
IsGivenSame a b = (pointwise (λ x y. same_item (item_of x) (item_of y)) a.frames.items b.frames.items ≡ true)
    × (a.position ≡ b.position) × (a.schemas ≡ b.schemas) × (a.conflict ≡ b.conflict)

-- what is given of a trace whole, and in pieces of a size
pub record IsGivenBoth (trace : List ℕ) (size : ℕ) (whole pieces : Given) : Type 0 where
  pub whole_is : GivesWhole trace whole
  pub pieces_are : GivesInPieces trace size pieces

-- the frames of the pieces, joined, and the end are those of the whole
abbrev pub AreGivenAlike : List ℕ → ℕ → Type 0
AreGivenAlike trace size = (whole pieces : Given) × IsGivenBoth trace size whole pieces × IsGivenSame whole pieces

-- they are not
abbrev pub AreGivenApart : List ℕ → ℕ → Type 0
AreGivenApart trace size = (whole pieces : Given) × IsGivenBoth trace size whole pieces
    × (IsGivenSame whole pieces → ⊥)
