-- For private contracts: JSON that is sent as it grows.
use Rattle.std.specs.Prelude.{◌≡◌, ◌≤◌, ℕ, Bool, true, false, List, [], ◌∷◌, ◌++◌, drop, fold, length, Result, Ok, Err}
use Rattle.std.specs.declared.io.ErrorKind.{ErrorKind}
use Rattle.json.specs.Print.{ends, ends_value, print, print_from}
use Rattle.json.specs.Token.{Token}
use Rattle.trace_values.specs.Sending.{Account, TookOnly}
use Rattle.trace_json.specs.Sending.{SendsPart}
use Rattle.trace_json.specs.declared.growing.SentJson.{SentJson}
use Rattle.trace_json.specs.declared.growing.LineError.{LineError}
use Rattle.trace_json.specs.declared.growing.LineError.TheVariants.{OutOfMemory, Writer}

-- the faults that an error tells
abbrev pub faults_of : LineError → List ErrorKind
faults_of OutOfMemory = []
faults_of (Writer kind) = kind ∷ []

-- a front of bytes was sent, and these faults came
pub record SendsSome (before after : Account) (bytes : List ℕ) (faults : List ErrorKind) : Type 0 where
  pub sent : List ℕ
  pub others : List ℕ
  pub took : TookOnly before after sent faults
  pub all : bytes ≡ sent ++ others

-- all of these bytes were sent; or a front of them
abbrev pub SendsBytes : Account → Account → List ℕ → Result (Unit {0}) LineError → Type 0
SendsBytes before after bytes (Ok u) = TookOnly before after bytes []
SendsBytes before after bytes (Err e) = SendsSome before after bytes (faults_of e)

-- how many bytes of the writer's text stand for what was sent
abbrev pub standing_for : Bool → ℕ
standing_for true = 1
standing_for false = 0

-- the text of the line that was not sent
abbrev pub left_of : {W : Type 0} → SentJson W → List ℕ
left_of s = drop (standing_for s.goes_on) (print s.writer.tokens)

-- what was not sent
abbrev pub not_sent : {W : Type 0} → SentJson W → List ℕ
not_sent s = s.held.items ++ left_of s

-- the writer has a line alone, and what stands for what was sent
pub record IsReady {W : Type 0} (s : SentJson W) : Type 0 where
  pub before : s.writer.before ≡ []
  pub stands : standing_for s.goes_on ≤ length (print s.writer.tokens)

-- tokens come after those that were put, and of all text a front is sent
pub record Sends {W : Type 0} (told : W → Account) (old : SentJson W) (tokens : List Token) (new : SentJson W)
    : Type 0 where
  pub same_writer : new.out.ghost_name ≡ old.out.ghost_name
  pub ready : IsReady new
  pub ends_so : ends_value new.writer.tokens ≡ fold (λ _ t. ends t) (ends_value old.writer.tokens) tokens
  pub sends : SendsPart (told old.out.now) (told new.out.now)
      (not_sent old ++ print_from (ends_value old.writer.tokens) tokens) (not_sent new)

abbrev pub JsonGrows : {W : Type 0} → (W → Account) → SentJson W → List Token → SentJson W → Type 0
JsonGrows told old tokens new = IsReady old → Sends told old tokens new

-- a front of the text of what was put, and of tokens after that, was sent, and these faults came
pub record Stops {W : Type 0} (told : W → Account) (old : SentJson W) (faults : List ErrorKind) (new : SentJson W)
    : Type 0 where
  pub same_writer : new.out.ghost_name ≡ old.out.ghost_name
  pub tokens : List Token
  pub sends : SendsSome (told old.out.now) (told new.out.now)
      (not_sent old ++ print_from (ends_value old.writer.tokens) tokens) faults

abbrev pub JsonFails : {W : Type 0} → (W → Account) → SentJson W → LineError → SentJson W → Type 0
JsonFails told old e new = IsReady old → Stops told old (faults_of e) new
