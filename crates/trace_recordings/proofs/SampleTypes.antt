-- A type of a slot and a schema.
use Rattle.std.proofs.Common.{◌≡◌, ℕ, true, subst, sym}
use Rattle.std.proofs.lemmas.Bool.{and_parts, eqb-true}
use Rattle.trace_wire.proofs.SameEntries.{same_entry-Decides}
use Rattle.trace_wire.specs.Schemas.{Entry}
use Rattle.trace_recordings.specs.Samples.{is_of}

-- what holds of the type's slot and schema holds of a slot and a schema that are compared as equal to them
pub of_that :
    (P : ℕ → Entry → Type 0) (slot : ℕ) (entry : Entry) (t : ℕ × Entry) → is_of slot entry t ≡ true → P t.0 t.1 →
    P slot entry
of_that P slot entry t is p =
    let both = and_parts _ _ is in
    subst (λ n. P n entry) (sym (eqb-true slot t.0 both.0))
    (subst (P t.0) (sym ((same_entry-Decides entry t.1).0 both.1)) p)
