-- What an answer is, beside the one that is wanted.
use Rattle.std.specs.Prelude.{◌≡◌, ℕ, Bool, true, false, ◌==◌, ◌&&◌, ◌||◌, nat_le, nat_lt, if◌then◌else◌}
use Rattle.std.specs.Prelude.{List, length}
use Rattle.std.specs.Prelude.{Option, Some, None, is_none, Result, Ok, Err, ◌∷◌, []}
use Rattle.std.specs.declared.alloc.AllocError.{AllocError}
use Rattle.trace_values.specs.declared.leb128.error.EncodeError.{EncodeError}
use Rattle.trace_values.specs.declared.leb128.error.EncodeError.TheVariants as errors
use Rattle.trace_wire.specs.Runs.{Item, SchemaItem, EventItem, StringsItem, StacksItem, AnnotationsItem}
use Rattle.dial9_trace_format.specs.declared.decoder.error.DecodeError.{DecodeError}
use Rattle.dial9_trace_format.specs.declared.decoder.error.DecodeErrorKind.TheVariants as kinds
use Rattle.dial9_trace_format.specs.declared.decoder.decoded_frame_ref.DecodedFrameRef.{DecodedFrameRef}
use Rattle.dial9_trace_format.specs.Decoding.{DecoderState}
use Rattle.dial9_trace_format.specs.Iterating.{GivesNext}
use Rattle.hostile.specs.declared.changed.tally.End.{End}
use Rattle.hostile.specs.declared.changed.tally.End.TheVariants as ends
use Rattle.hostile.specs.declared.refused.before.Stood.{Stood}
use Rattle.hostile.specs.declared.refused.dumping.Front.{Front}
use Rattle.hostile.specs.declared.refused.feeding.Form.{Form}
use Rattle.hostile.specs.declared.refused.feeding.Form.TheVariants as forms
use Rattle.hostile.specs.declared.refused.runs.Reader.{Reader}
use Rattle.hostile.specs.declared.refused.runs.Reader.TheVariants as readers
use Rattle.hostile.specs.declared.refused.verdict.Answer.{Answer}
use Rattle.hostile.specs.declared.refused.verdict.Answer.TheVariants.{Same, Memory, Other}

-- of an encoder's call that is to be accepted
abbrev pub told_as : Result (Unit {0}) EncodeError → Answer
told_as (Ok x) = Same
told_as (Err errors.OutOfMemory) = Memory
told_as (Err e) = Other

-- of a call that makes what is to be made
abbrev pub made_as : Result Bool AllocError → Answer
made_as (Ok true) = Same
made_as (Ok false) = Other
made_as (Err e) = Memory

-- of a dump with this status, of which these lines did not come
abbrev pub dumped_as : ℕ → ℕ → List ℕ → Answer
dumped_as wanted status rest =
    if status == 4 then Memory else (if status == wanted && length rest == 0 then Same else Other)

-- a front that was dumped before the growth of this number has its lines among so many bytes that are out
abbrev pub is_out : ℕ → ℕ → Front → Bool
is_out number sent front = nat_lt number front.growth || nat_le front.lines sent

-- it ended by want of memory
abbrev pub EndsByWant : Option DecodeError → Type 0
EndsByWant None = ⊥
EndsByWant (Some e) = e.kind ≡ kinds.OutOfMemory

-- So many as stood before the place where it failed: frames by readers of frames, else events. Of many none is asked.
abbrev pub gave_by : Reader → ℕ → Option Stood → Bool
gave_by reader given None = false
gave_by readers.Owned given (Some stood) = stood.frames == given
gave_by readers.Borrowed given (Some stood) = stood.frames == given
gave_by readers.Frames given (Some stood) = stood.frames == given
gave_by readers.Events given (Some stood) = stood.events == given
gave_by readers.AllOwned given (Some stood) = true
gave_by readers.AllBorrowed given (Some stood) = true
gave_by readers.Sink given (Some stood) = stood.events == given
gave_by readers.Visitor given (Some stood) = stood.events == given
gave_by readers.Into given (Some stood) = stood.events == given
gave_by readers.RefInto given (Some stood) = stood.events == given

-- the same of a decoder that is fed: with a piece that failed its frames are dropped
abbrev pub fed_gave : Form → ℕ → Option Stood → Bool
fed_gave form given None = false
fed_gave forms.Feed given (Some stood) = nat_le given stood.frames
fed_gave forms.Push given (Some stood) = given == stood.frames
fed_gave forms.Compact given (Some stood) = given == stood.frames
fed_gave forms.Passing given (Some stood) = given == stood.frames

-- an event of this wire id and time is wanted, whatever its values
abbrev pub is_headed : Option Item → ℕ → ℕ → Bool
is_headed (Some (EventItem id time values)) i t = id == i && time == t
is_headed (Some (SchemaItem entry)) i t = false
is_headed (Some (StringsItem entries)) i t = false
is_headed (Some (StacksItem entries)) i t = false
is_headed (Some (AnnotationsItem id annotations)) i t = false
is_headed None i t = false

-- how a reader ended, which read all bytes or did not
abbrev pub end_at : Bool → Option DecodeError → End
end_at whole (Some e) = ends.Conflict
end_at true None = ends.Whole
end_at false None = ends.Stopped

-- the four bytes that a header begins with
abbrev pub magic : List ℕ
magic = 0x54 ∷ 0x52 ∷ 0x43 ∷ 0 ∷ []

-- an iterator was asked once more, and gave nothing or something
abbrev pub IsAsked : DecoderState → DecoderState → Bool → Type 0
IsAsked old new over = (item : Option (Result DecodedFrameRef DecodeError)) × GivesNext old item new
    × (over ≡ is_none item)

-- an iterator is over where it gives nothing when it is asked once more; another reader is not asked
abbrev pub IsOver : Reader → DecoderState → DecoderState → Bool → Type 0
IsOver readers.Frames old new over = IsAsked old new over
IsOver readers.Events old new over = IsAsked old new over
IsOver readers.Owned old new over = (new ≡ old) × (over ≡ true)
IsOver readers.Borrowed old new over = (new ≡ old) × (over ≡ true)
IsOver readers.AllOwned old new over = (new ≡ old) × (over ≡ true)
IsOver readers.AllBorrowed old new over = (new ≡ old) × (over ≡ true)
IsOver readers.Sink old new over = (new ≡ old) × (over ≡ true)
IsOver readers.Visitor old new over = (new ≡ old) × (over ≡ true)
IsOver readers.Into old new over = (new ≡ old) × (over ≡ true)
IsOver readers.RefInto old new over = (new ≡ old) × (over ≡ true)
