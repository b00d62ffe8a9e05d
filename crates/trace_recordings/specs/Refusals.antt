-- Why a script was not played.
use Rattle.std.specs.Prelude.{◌≡◌, not, ⊤, ℕ, Bool, true, false, List, ◌∷◌, ◌++◌, length, None}
use Rattle.std.specs.List.{AllByRecursion}
use Rattle.trace_recordings.specs.declared.player.PlayError.{PlayError}
use Rattle.trace_recordings.specs.declared.player.PlayError.TheVariants as plays
use Rattle.trace_recordings.specs.declared.script.definitions.Definition.{Definition}
use Rattle.trace_recordings.specs.declared.script.call.ScriptCall.{ScriptCall}
use Rattle.trace_recordings.specs.declared.script.call.ScriptCall.TheVariants.{Register, Event, DefineType}
use Rattle.trace_recordings.specs.declared.script.call.ScriptCall.TheVariants.{WriteTyped, Resume}
use Rattle.trace_recordings.specs.Scripts.{IsScript, IsBrokenAt, word_of}
use Rattle.dial9_trace_format.specs.Decoding.{IsHeadless}
use Rattle.trace_recordings.specs.Playing.{Defined, Playing, TurnsEach, defined_entry, start, under}
use Rattle.trace_recordings.specs.Samples.{is_sample}
use Rattle.trace_recordings.specs.Tallies.{counted_up}

-- the call makes a type that is none of the samples
abbrev pub misses : ScriptCall → Bool
misses (DefineType handle slot definition) = not (is_sample slot (defined_entry definition))
misses call = false

-- the call can be played
abbrev pub IsHad : ScriptCall → Type 0
IsHad call = misses call ≡ false

-- A line has the first call that cannot be played, which begins with a word. Lines count from 1.
pub record FirstMissing (calls : List ScriptCall) (line : ℕ) (word : List ℕ) : Type 0 where
  pub before : List ScriptCall
  pub call : ScriptCall
  pub after : List ScriptCall
  pub parts : calls ≡ before ++ call ∷ after
  pub had : AllByRecursion IsHad before
  pub missing : misses call ≡ true
  pub counts : line ≡ counted_up (length before) 1
  pub word_is : word ≡ word_of call

-- the call of the line cannot be played, or memory was wanting
abbrev pub MissesAt : ℕ → ScriptCall → PlayError → Type 0
MissesAt line call (plays.LeftOut other word) = (other ≡ line) × (word.now ≡ word_of call) × (misses call ≡ true)
MissesAt line call plays.Memory = ⊤
MissesAt line call error = ⊥

-- the refusal of the first call that cannot be played
abbrev pub LeavesOut : List ScriptCall → PlayError → Type 0
LeavesOut calls (plays.LeftOut line word) = FirstMissing calls line word.now
LeavesOut calls plays.Memory = ⊤
LeavesOut calls error = ⊥

-- the call names what it writes by this handle, under which nothing of the kind stands
abbrev pub NamesNone : Defined → ScriptCall → ℕ → Type 0
NamesNone defined (Register handle) other = (other ≡ handle) × (under defined.schemas handle ≡ None)
NamesNone defined (Event handle time values) other = (other ≡ handle) × (under defined.schemas handle ≡ None)
NamesNone defined (WriteTyped handle time values) other = (other ≡ handle) × (under defined.types handle ≡ None)
NamesNone defined call other = ⊥

-- the call writes an event of a type
abbrev pub WritesTyped : ScriptCall → Type 0
WritesTyped (WriteTyped handle time values) = ⊤
WritesTyped call = ⊥

-- Every call can be played; those before a line were made, and of that of the line this is true.
pub record StopsAtLine (calls : List ScriptCall) (line : ℕ) (why : Playing → ScriptCall → Type 0) : Type 0 where
  pub before : List ScriptCall
  pub call : ScriptCall
  pub after : List ScriptCall
  pub parts : calls ≡ before ++ call ∷ after
  pub had : AllByRecursion IsHad calls
  pub counts : line ≡ counted_up (length before) 1
  pub reached : Playing
  pub turns : TurnsEach start before reached
  pub is_so : why reached call

-- the call of the line names what it writes by a handle that stands for nothing of the kind
abbrev pub NamesUnknown : List ScriptCall → ℕ → ℕ → Type 0
NamesUnknown calls line handle = StopsAtLine calls line (λ p call. NamesNone p.defined call handle)

-- the call of the line writes an event of a type, whose values were not taken
abbrev pub NamesUnheld : List ScriptCall → ℕ → Type 0
NamesUnheld calls line = StopsAtLine calls line (λ p call. WritesTyped call)

-- the call goes on after an output without a header
abbrev pub ResumesHeadless : Playing → ScriptCall → Type 0
ResumesHeadless p Resume = IsHeadless p.bytes
ResumesHeadless p call = ⊥

-- want of memory, or an encoder that could not be made
abbrev pub IsOfPlayer : PlayError → Type 0
IsOfPlayer (plays.Encoder error) = ⊤
IsOfPlayer plays.Memory = ⊤
IsOfPlayer error = ⊥

-- the values of a line are those of no event of its type, or memory was wanting
abbrev pub IsUnheld : ℕ → PlayError → Type 0
IsUnheld line (plays.Unheld other) = other ≡ line
IsUnheld line plays.Memory = ⊤
IsUnheld line error = ⊥

-- no sample type is so defined, or memory was wanting
abbrev pub LacksType : ℕ → ℕ → Definition → PlayError → Type 0
LacksType line slot definition (plays.LeftOut other word) =
    not (is_sample slot (defined_entry definition)) ≡ true
LacksType line slot definition plays.Memory = ⊤
LacksType line slot definition error = ⊥

-- no header stands at the front of the output, or memory was wanting
abbrev pub LacksHeader : ℕ → List ℕ → PlayError → Type 0
LacksHeader line trace (plays.Headless other) = (other ≡ line) × IsHeadless trace
LacksHeader line trace plays.Memory = ⊤
LacksHeader line trace error = ⊥

-- why the call of a line was not made, under these definitions
abbrev pub RefusesUnder : Defined → ℕ → ScriptCall → PlayError → Type 0
RefusesUnder defined line call (plays.Script error) = ⊥
RefusesUnder defined line call (plays.LeftOut other word) = misses call ≡ true
RefusesUnder defined line call (plays.Unknown other handle) = (other ≡ line) × NamesNone defined call handle
RefusesUnder defined line call (plays.Unheld other) = (other ≡ line) × WritesTyped call
RefusesUnder defined line call (plays.Headless other) = ⊥
RefusesUnder defined line call error = ⊤

-- the same where playing has come to p
abbrev pub RefusesCall : Playing → ℕ → ScriptCall → PlayError → Type 0
RefusesCall p line call (plays.Headless other) = (other ≡ line) × ResumesHeadless p call
RefusesCall p line call error = RefusesUnder p.defined line call error

-- why a script was not played: a line cannot be read; it is read whole, and makes a type that is none of the samples,
-- or names a handle that nothing has, or writes an event of a type whose values were not taken, or goes on after an
-- output without a header; want of memory, or no encoder
abbrev pub RefusesScript : List ℕ → PlayError → Type 0
RefusesScript text (plays.Script error) = IsBrokenAt text error
RefusesScript text (plays.LeftOut line word) =
    (calls : List ScriptCall) × IsScript calls text × FirstMissing calls line word.now
RefusesScript text (plays.Unknown line handle) =
    (calls : List ScriptCall) × IsScript calls text × NamesUnknown calls line handle
RefusesScript text (plays.Unheld line) = (calls : List ScriptCall) × IsScript calls text × NamesUnheld calls line
RefusesScript text (plays.Headless line) =
    (calls : List ScriptCall) × IsScript calls text × StopsAtLine calls line ResumesHeadless
RefusesScript text error = ⊤
