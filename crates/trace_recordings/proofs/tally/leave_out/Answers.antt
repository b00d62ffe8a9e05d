use Rattle.std.proofs.Common.{◌≡◌, [], ◌∷◌, Some, None, refl, sym, ap, ◌∙◌}
use Rattle.std.specs.List.{position}
use Rattle.std.proofs.lemmas.List.{map-append}
use Rattle.trace_recordings.specs.declared.tally.LeftOut.{LeftOut}
use Rattle.trace_recordings.specs.Tallies.{counts_of, is_named}
use Rattle.trace_recordings.proofs.OneMoreOfAName.{counted_first, counted_new}
use Rattle.trace_recordings.proofs.tally.leave_out.Goals as goal

pub returns-in-Some : goal.returns-in-Some
returns-in-Some c =
    let index : Some c.in-Some.index ≡ position (is_named c.args.name.now) c.args.left_out.now.items =
    rw (← c.deref.ensures.value) c.in-Some.ensures in
    counted_first _ _ _ _ _ _ index c.index_mut-known.ensures.value
    (record { name = refl; count = c.saturating_add-known.ensures })

pub returns-in_ok-push-in-None : goal.returns-in_ok-push-in-None
returns-in_ok-push-in-None c =
    let index : None ≡ position (is_named c.args.name.now) c.args.left_out.now.items =
    rw (← c.deref.ensures.value) c.in-None.ensures in
    let added : LeftOut = record { name = c.args.name; count = 1 } in
    ap counts_of c.in_ok-push-in-None.ensures.items
    ∙
    (map-append _ c.args.left_out.now.items (added ∷ [])
    ∙ sym (counted_new c.args.name.now c.args.left_out.now.items added index))
