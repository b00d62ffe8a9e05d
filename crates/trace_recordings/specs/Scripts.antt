-- How the calls of a script stand in its lines.
use Rattle.std.specs.Prelude.{◌≡◌, ◌≢◌, ◌⊎◌, ⊤, ℕ, ◌-◌, ◌<◌, ◌==◌, Bool, true, List, [], ◌∷◌, ◌++◌, length, slice_get}
use Rattle.std.specs.Prelude.{Option, Some, None, Result, Ok, IfOk, codes, decimal, string_bytes}
use Rattle.std.specs.List.{flat_map, slice_split}
use Rattle.std.specs.Borrow.{Bor}
use Rattle.hex.specs.Hex.{decode_of}
use Rattle.trace_values.specs.Values.{Value}
use Rattle.trace_values.specs.ValueViews.{views}
use Rattle.trace_lines.specs.Lines.{quoted, address_list, spaced_value}
use Rattle.trace_recordings.specs.declared.script.call.ScriptCall.{ScriptCall}
use Rattle.trace_recordings.specs.declared.script.call.ScriptCall.TheVariants.{Nothing, Define, Register, Event}
use Rattle.trace_recordings.specs.declared.script.call.ScriptCall.TheVariants.{DefineType, WriteTyped, InternString}
use Rattle.trace_recordings.specs.declared.script.call.ScriptCall.TheVariants.{InternStack, StringPool, StackPool}
use Rattle.trace_recordings.specs.declared.script.call.ScriptCall.TheVariants.{Reset, Resume, Raw, Bare}
use Rattle.trace_recordings.specs.declared.script.ScriptError.{ScriptError}
use Rattle.trace_recordings.specs.declared.script.line_error.LineError.{LineError}
use Rattle.trace_recordings.specs.declared.script.line_error.LineError.TheVariants.{Memory}
use Rattle.trace_recordings.specs.Definitions.{definition_text}
use Rattle.trace_recordings.specs.Tallies.{counted_up}
use Rattle.trace_recordings.specs.Pools.{pool_text_text, pool_stack_text}

-- what was found is followed by fewer bytes than the line has
abbrev pub Shortens : {A : Type 0} → List ℕ → Result (A × Bor (List ℕ)) LineError → Type 0
Shortens line result = IfOk result (λ x. length x.1.now < length line)

-- an event: a handle, a time, and each value
unfoldable pub event_text : ℕ → ℕ → List Value → List ℕ
event_text handle time values = decimal handle ++ codes " " ++ decimal time ++ flat_map spaced_value values

-- the text is the two hexadecimal digits of a byte
abbrev pub IsPair : ℕ → List ℕ → Type 0
IsPair byte text = decode_of text ≡ Ok (byte ∷ [])

-- the text is the pairs of hexadecimal digits of one byte or more; a space may stand between two pairs
abbrev pub AreDigitsOf : List ℕ → List ℕ → Type 0
AreDigitsOf [] text = ⊥
AreDigitsOf (byte ∷ []) text = IsPair byte text
AreDigitsOf (byte ∷ (next ∷ bytes)) text = (pair : List ℕ) × (rest : List ℕ) × IsPair byte pair
    × ((text ≡ pair ++ rest) ⊎ (text ≡ pair ++ codes " " ++ rest)) × AreDigitsOf (next ∷ bytes) rest

-- characters by their bytes
abbrev pub number_sign : ℕ
number_sign = 35

abbrev pub line_feed : ℕ
line_feed = 10

abbrev pub carriage_return : ℕ
carriage_return = 13

-- the line is empty, or begins with `#`
abbrev pub is_silent : List ℕ → Bool
is_silent [] = true
is_silent (b ∷ bs) = b == number_sign

-- the word by which a line of the call begins
abbrev pub word_of : ScriptCall → List ℕ
word_of Nothing = []
word_of (Define handle definition) = codes "define"
word_of (Register handle) = codes "register"
word_of (Event handle time values) = codes "event"
word_of (DefineType handle slot definition) = codes "type"
word_of (WriteTyped handle time values) = codes "write"
word_of (InternString text) = codes "string"
word_of (InternStack frames) = codes "stack"
word_of (StringPool entries) = codes "strings"
word_of (StackPool entries) = codes "stacks"
word_of Reset = codes "reset"
word_of Resume = codes "resume"
word_of (Raw bytes) = codes "raw"
word_of Bare = codes "bare"

-- the line says the call
abbrev pub Says : ScriptCall → List ℕ → Type 0
Says Nothing line = is_silent line ≡ true
Says (Define handle definition) line =
    line ≡ codes "define " ++ decimal handle ++ codes " " ++ definition_text definition
Says (Register handle) line = line ≡ codes "register " ++ decimal handle
Says (Event handle time values) line = line ≡ codes "event " ++ event_text handle time (views values.items)
Says (DefineType handle slot definition) line =
    line ≡ codes "type " ++ decimal handle ++ codes " " ++ decimal slot ++ codes " " ++ definition_text definition
Says (WriteTyped handle time values) line = line ≡ codes "write " ++ event_text handle time (views values.items)
Says (InternString text) line = line ≡ codes "string " ++ quoted (string_bytes text)
Says (InternStack frames) line = line ≡ codes "stack " ++ address_list frames.items
Says (StringPool entries) line = line ≡ codes "strings" ++ flat_map pool_text_text entries.items
Says (StackPool entries) line = line ≡ codes "stacks" ++ flat_map pool_stack_text entries.items
Says Reset line = line ≡ codes "reset"
Says Resume line = line ≡ codes "resume"
Says (Raw bytes) line = (digits : List ℕ) × (line ≡ codes "raw " ++ digits) × AreDigitsOf bytes.items digits
Says Bare line = line ≡ codes "bare"

-- each line says the call of the same index
abbrev pub SayEach : List (List ℕ) → List ScriptCall → Type 0
SayEach [] [] = Unit {0}
SayEach [] (call ∷ calls) = ⊥
SayEach (line ∷ lines) [] = ⊥
SayEach (line ∷ lines) (call ∷ calls) = Says call line × SayEach lines calls

-- the lines of a text
abbrev pub lines_of : List ℕ → List (List ℕ)
lines_of text = slice_split (λ b. b == line_feed) text

-- the lines of the text say the calls
unfoldable pub IsScript : List ScriptCall → List ℕ → Type 0
IsScript calls text = SayEach (lines_of text) calls

-- the call is one word, or nothing
abbrev pub IsWord : ScriptCall → Type 0
IsWord Nothing = ⊤
IsWord Reset = ⊤
IsWord Resume = ⊤
IsWord Bare = ⊤
IsWord call = ⊥

-- the line is not silent, and no call of one word
abbrev pub SaysNoWord : List ℕ → Type 0
SaysNoWord line = (call : ScriptCall) → IsWord call → Says call line → ⊥

-- The lines before that of the error say calls. Reading stopped at its line, which is not silent and no call of one
-- word, where memory was not wanting. Lines count from 1.
pub record IsBrokenAt (text : List ℕ) (error : ScriptError) : Type 0 where
  pub before : List (List ℕ)
  pub calls : List ScriptCall
  pub said : SayEach before calls
  pub broken : List ℕ
  pub after : List (List ℕ)
  pub parts : lines_of text ≡ before ++ broken ∷ after
  pub unsaid : error.error ≢ Memory → SaysNoWord broken
  pub counts : error.line ≡ counted_up (length before) 1

-- the last byte of the line is a carriage return
abbrev pub EndsWithReturn : List ℕ → Type 0
EndsWithReturn line = slice_get line (length line - 1) ≡ Some carriage_return

-- the first line of the text, and what stands after it
abbrev pub IsFirstLine : List ℕ → List ℕ → Option (List ℕ) → Type 0
IsFirstLine text line None = lines_of text ≡ line ∷ []
IsFirstLine text line (Some rest) = lines_of text ≡ line ∷ lines_of rest

-- one more call, which the line says
pub record GainsCall (old new : List ScriptCall) (line : List ℕ) : Type 0 where
  pub call : ScriptCall
  pub says : Says call line
  pub gained : new ≡ old ++ call ∷ []
