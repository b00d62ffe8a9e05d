-- For private contracts: lines of values that are read from their bytes.
use Rattle.std.specs.Prelude.{◌≡◌, ℕ, List, ◌++◌, Option, Some, Result, Ok, Err, codes}
use Rattle.std.specs.Borrow.{Bor}
use Rattle.std.specs.Fmt.{decimal}
use Rattle.trace_values.specs.Values.{Value}
use Rattle.trace_lines.specs.Lines.{value_text}

-- the text is appended, and these bytes are the answer; or the text is not appended
abbrev pub PutsText : {S E : Type 0} → (S → List ℕ → Result (Unit {0}) E → S → Type 0) → List ℕ → List ℕ → S → S
    → Result (Bor (List ℕ)) E → Type 0
PutsText grows text rest s t (Ok answer) = grows s text (Ok tt) t × (answer.now ≡ rest)
PutsText grows text rest s t (Err e) = grows s text (Err e) t

-- The text of what is read is appended, and the bytes after that are the answer. Where nothing is read, nothing is
-- said.
pub record PutsRead {S E A : Type 0} (grows : S → List ℕ → Result (Unit {0}) E → S → Type 0) (text : A → List ℕ)
    (read : Option (A × List ℕ)) (s t : S) (result : Result (Bor (List ℕ)) E) : Type 0 where
  pub puts : (x : A × List ℕ) → read ≡ Some x → PutsText grows (text x.0) x.1 s t result

-- how the line of an event begins: its wire id and its time
abbrev pub event_start : ℕ → ℕ → List ℕ
event_start id time = codes "event " ++ decimal id ++ codes " " ++ decimal time

-- a key and its value
abbrev pub pair_value_text : Value × Value → List ℕ
pair_value_text p = value_text p.0 ++ codes "=" ++ value_text p.1
