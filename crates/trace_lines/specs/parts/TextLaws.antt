-- For private contracts: the laws of a text that grows by parts and is kept whole.
use Rattle.std.specs.Prelude.{ℕ, List, [], ◌++◌, Result, Ok, Err, String, string_bytes}
use Rattle.std.specs.declared.alloc.AllocError.{AllocError}
use Rattle.std.specs.declared.alloc.Global.{Global}
use Rattle.std.proofs.Common.{sym, ap, ◌∙◌, append-nil, append_assoc}
use Rattle.trace_lines.specs.Appending.{AppendsText}

-- no text is appended by doing nothing
pub text_empty : (s : String Global) → AppendsText [] s s (Ok tt)
text_empty s = sym (append-nil (string_bytes s))

-- a text is appended after another
pub text_joins :
    (s m t : String Global) (a b : List ℕ) (r : Result (Unit {0}) AllocError) → AppendsText a s m (Ok tt) →
    AppendsText b m t r → AppendsText (a ++ b) s t r
text_joins s m t a b (Ok u) first second =
    second ∙ ap (λ (x : List ℕ). x ++ b) first ∙ append_assoc (string_bytes s) a b
text_joins s m t a b (Err e) first second = tt

-- where it was not appended nothing is said of what stands there
pub text_stops :
    (s t : String Global) (a b : List ℕ) (e : AllocError) → AppendsText a s t (Err e) →
    AppendsText (a ++ b) s t (Err e)
text_stops s t a b e stopped = tt
