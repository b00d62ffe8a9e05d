use Rattle.std.proofs.Common.{◌≡◌, Some, true, ap, sym, ◌∙◌, rules}
use Rattle.std.proofs.lemmas.Option.{slice_get-get_or}
use Rattle.std.specs.Prelude.{slice_get}
use Rattle.trace_wire.specs.Schemas.{same_entry}
use Rattle.trace_wire.proofs.SameEntries.{same_entry-Decides}
use Rattle.trace_page.proofs.Places.{place_found, place_lacking}
use Rattle.trace_page.proofs.data.counting.place_of.Goals as goal

pub returns-then-eq-clause-found : goal.returns-then-eq-clause-found
returns-then-eq-clause-found c =
    let s = c.in-Some.guessed.now in
    let found = c.in-Some.ensures.lookup in
    let at : slice_get c.args.schemas.now c.args.guess ≡ Some s
    = slice_get-get_or c.args.schemas.now c.args.guess s found.3.0 ∙ ap Some (sym found.1) in
    let same : same_entry s.entry c.args.entry.now ≡ true = search rules in
    (s, at, (same_entry-Decides s.entry c.args.entry.now).0 same)

pub returns-clause-found : goal.returns-clause-found
returns-clause-found c = place_found c.first_place.result c.args.schemas.now c.args.entry.now c.first_place.ensures

pub returns-clause-none : goal.returns-clause-none
returns-clause-none c = place_lacking c.first_place.result c.args.schemas.now c.args.entry.now c.first_place.ensures
