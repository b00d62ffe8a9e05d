-- What a writer that tells all is to a contract, and what it answers by its manner.
use Rattle.std.specs.Prelude.{false, ◌≡◌, ◌≢◌, ℕ, ◌-◌, min, List, [], length, Option, None, Some, Result, Ok, Err}
use Rattle.std.specs.IoError.{error_kind}
use Rattle.std.specs.declared.io.Error.{Error}
use Rattle.std.specs.declared.io.ErrorKind.{ErrorKind}
use Rattle.trace_values.specs.declared.leb128.faults.Faults.{Faults}
use Rattle.trace_values.specs.declared.leb128.faults.Faults.TheVariants.{NoFault}
use Rattle.trace_values.specs.Sending.{Account}
use Rattle.trace_samples.specs.declared.manner.Manner.{Manner}
use Rattle.trace_samples.specs.declared.manner.Fault.{Fault}
use Rattle.trace_samples.specs.declared.manner.Fault.TheVariants as fault_forms
use Rattle.trace_samples.specs.Manners.{next_fault, spent, end_of}

-- the bytes that it accepted, its faults, those of the bytes that it has not handed on yet, and how it goes on
pub record Teller : Type 0 where
  pub bytes : List ℕ
  pub faults : Faults
  pub waiting : List ℕ
  pub manner : Manner

-- it tells all
abbrev pub all_told : Teller → Account
all_told t = record { bytes = Some t.bytes; faults = Some t.faults; waiting = Some t.waiting; lends = false }

-- it accepted nothing, and is settled
abbrev pub new_teller : Manner → Teller
new_teller manner = record { bytes = []; faults = NoFault; waiting = []; manner = manner }

-- how many bytes of a piece of this size it accepts next
abbrev pub next_count : Teller → ℕ → ℕ
next_count t size = min size (min t.manner.most (end_of t.manner - length t.bytes))

-- an answer of `send` is this fault
abbrev pub AnswersFault : Fault → Result ℕ Error → Type 0
AnswersFault fault_forms.Zero result = result ≡ Ok 0
AnswersFault (fault_forms.Error kind) (Ok n) = ⊥
AnswersFault (fault_forms.Error kind) (Err e) = error_kind e ≡ kind

-- the manner after a fault
abbrev pub manner_spent : Manner → Manner
manner_spent manner = record manner { failing = spent manner.failing }

-- What `send` answers by the manner: nothing of an empty piece; else as many bytes as it accepts next; where that is
-- none, the next fault, which is then spent.
pub record Follows (old : Teller) (piece : List ℕ) (result : Result ℕ Error) (new : Teller) : Type 0 where
  pub nothing : piece ≡ [] → (result ≡ Ok 0) × (new.manner ≡ old.manner)
  pub accepts :
      next_count old (length piece) ≢ 0 → (result ≡ Ok (next_count old (length piece))) × (new.manner ≡ old.manner)
  pub fails :
      piece ≢ [] → next_count old (length piece) ≡ 0 → AnswersFault (next_fault old.manner.failing) result
      × (new.manner ≡ manner_spent old.manner)

-- what `settle` answers by the manner
abbrev pub FollowsSettling : {A : Type 0} → Option ErrorKind → Result A Error → Type 0
FollowsSettling None (Ok u) = Unit {0}
FollowsSettling None (Err e) = ⊥
FollowsSettling (Some kind) (Ok u) = ⊥
FollowsSettling (Some kind) (Err e) = error_kind e ≡ kind
