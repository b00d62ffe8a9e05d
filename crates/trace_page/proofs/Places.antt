-- Where the schema of an event stands.
use Rattle.std.proofs.Common.{◌≡◌, ℕ, List, Option, Some, None, IfSome, IfNone, sym, ◌∙◌}
use Rattle.std.proofs.lemmas.Bool.{true≢false}
use Rattle.std.specs.Prelude.{position}
use Rattle.trace_wire.specs.Schemas.{Entry, same_entry}
use Rattle.trace_wire.proofs.SameEntries.{same_entry-Decides}
use Rattle.trace_page.specs.Counting.{IsPlaceOf, LacksEntry}
use Rattle.trace_page.specs.declared.schemas.PageSchema.{PageSchema}
use Rattle.trace_page.proofs.Named.{found_at, all_fail}

-- it stands where the test finds it
pub place_found : (o : Option ℕ) (ss : List PageSchema) (e : Entry) →
    o ≡ position (λ s. same_entry s.entry e) ss → IfSome o (IsPlaceOf ss e)
place_found None ss e is = tt
place_found (Some i) ss e is =
    let f = found_at (λ (s : PageSchema). same_entry s.entry e) ss i (sym is) in
    (f.0, f.1, (same_entry-Decides f.0.entry e).0 f.2)

-- and nowhere where the test finds none
pub place_lacking : (o : Option ℕ) (ss : List PageSchema) (e : Entry) →
    o ≡ position (λ s. same_entry s.entry e) ss → IfNone o (LacksEntry ss e)
place_lacking None ss e is = λ k d lt same.
    true≢false (sym ((same_entry-Decides _ e).1 same)
    ∙ all_fail (λ (s : PageSchema). same_entry s.entry e) ss (sym is) k d lt)
place_lacking (Some i) ss e is = tt
