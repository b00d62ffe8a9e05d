-- What encoders have to answer over a writer that fails.
use Rattle.std.specs.Prelude.{◌≡◌, ℕ, ◌<◌, ◌+◌, ◌-◌, ◌^◌, nat_lt, min, Bool, Option, Some, None}
use Rattle.std.specs.Prelude.{Result, Ok, Err}
use Rattle.std.specs.declared.io.ErrorKind.{ErrorKind}
use Rattle.std.specs.declared.io.ErrorKind.TheVariants as io_kinds
use Rattle.trace_values.specs.declared.leb128.error.EncodeError.{EncodeError}
use Rattle.trace_values.specs.declared.leb128.error.EncodeError.TheVariants as errors
use Rattle.failing_writers.specs.declared.breaking.Fault.{Fault}
use Rattle.failing_writers.specs.declared.breaking.Fault.TheVariants.{Zero, Error}

-- a call that ends there would pass the place
abbrev pub passes : ℕ → ℕ → Bool
passes place end = nat_lt place end

-- the kind that is told of a fault: of the answer 0, that nothing could be written
abbrev pub told_kind : Fault → ErrorKind
told_kind Zero = io_kinds.WriteZero
told_kind (Error kind) = kind

-- What the call of this index answers where one of them meets the fault: those before it are accepted, it tells the
-- fault, and those after it are told that the encoder has failed. Where none meets it, all are accepted.
pub record IsAnswer (failing : Option ℕ) (call : ℕ) (kind : ErrorKind) (answer : Result (Unit {0}) EncodeError)
    : Type 0 where
  pub none : failing ≡ None → answer ≡ Ok tt
  pub before : (at : ℕ) → failing ≡ Some at → call < at → answer ≡ Ok tt
  pub here : (at : ℕ) → failing ≡ Some at → call ≡ at → answer ≡ Err (errors.Writer kind)
  pub after : (at : ℕ) → failing ≡ Some at → at < call → answer ≡ Err errors.Failed

-- one more, up to the greatest number of 64 bits
abbrev pub one_more : ℕ → ℕ
one_more n = min (n + 1) (2 ^ 64 - 1)
