use Rattle.std.proofs.Common.{rules, [], ◌∷◌, take, arith, subst}
use Rattle.std.proofs.lemmas.List.{take_all, take_more}
use Rattle.std.specs.List.{AllByRecursion}
use Rattle.std.specs.Prelude.{get_or}
use Rattle.trace_recordings.specs.Pieces.{AreGivenAlike, IsGivenBoth, IsGivenSame, piece_sizes}
use Rattle.trace_values.proofs.OptionsAndBytes.{all_append}
use Rattle.trace_recordings.proofs.pieces.first_apart.Goals as goal

pub returns-then-not-is_same-clause-apart : goal.returns-then-not-is_same-clause-apart
returns-then-not-is_same-clause-apart c =
    let both : IsGivenBoth c.args.trace.now (get_or piece_sizes c.loop-size.size-index 0) c.in_ok-whole.whole
    c.in_ok-pieces.pieces = record { whole_is = c.in_ok-whole.ensures; pieces_are = c.in_ok-pieces.ensures } in
    let differ : IsGivenSame c.in_ok-whole.whole c.in_ok-pieces.pieces → ⊥ = search rules in
    (c.in_ok-whole.whole, c.in_ok-pieces.pieces, both, differ)

pub loop-size-preserved : goal.loop-size-preserved
loop-size-preserved c =
    let i = c.loop-size.size-index in
    let both : IsGivenBoth c.args.trace.now (get_or piece_sizes i 0) c.in_ok-whole.whole c.in_ok-pieces.pieces =
    record { whole_is = c.in_ok-whole.ensures; pieces_are = c.in_ok-pieces.ensures } in
    let same : IsGivenSame c.in_ok-whole.whole c.in_ok-pieces.pieces = search rules in
    let one : AreGivenAlike c.args.trace.now (get_or piece_sizes i 0) =
    (c.in_ok-whole.whole, c.in_ok-pieces.pieces, both, same) in
    rw (take_more piece_sizes i 0 (omega arith))
    (all_append (AreGivenAlike c.args.trace.now) (take i piece_sizes) (get_or piece_sizes i 0 ∷ [])
    c.loop-size.invariant (one, tt))

pub returns-clause-alike : goal.returns-clause-alike
returns-clause-alike c =
    subst (AllByRecursion (AreGivenAlike c.args.trace.now))
    (take_all c.loop-size.size-index piece_sizes (omega arith)) c.loop-size.invariant
