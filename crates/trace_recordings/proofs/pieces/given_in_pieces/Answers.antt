use Rattle.std.proofs.Common.{ℕ, ◌<◌, length, ap, sym, subst, ◌∙◌}
use Rattle.std.proofs.lemmas.List.{nil_from_length}
use Rattle.std.specs.FinMap as map
use Rattle.std.specs.Slice.Iter.{chunks_rest}
use Rattle.trace_recordings.proofs.FedInPieces.{TakesOne, fed_all, fed_more, pointed_to}
use Rattle.trace_recordings.specs.Tallies.{counted_up}
use Rattle.trace_recordings.proofs.pieces.given_in_pieces.Goals as goal

pub loop-piece-preserved : goal.loop-piece-preserved
loop-piece-preserved c =
    let steps = c.in-Some.ensures.steps in
    let size = c.loop-piece.invariant.2 in
    let one : TakesOne c.args.size c.loop-piece.frames.items c.feed_one.new.frames.items
    (chunks_rest c.loop-piece.piece-iterator) (chunks_rest c.next.new.self) c.loop-piece.decoder.state
    c.feed_one.new.decoder.state = record {
      piece = c.in-Some.piece.now;
      parts = steps.1.0;
      some = steps.1.2;
      size_is = rw size at steps.1.1;
      fed = c.in_ok-feed_one.ensures;
    } in (
      subst (λ (n : ℕ). 0 < n) (sym steps.0) c.loop-piece.invariant.0,
      tt,
      steps.0 ∙ size,
      fed_more _ _ _ _ _ _ _ _ c.loop-piece.invariant.3 one,
    )

pub returns : goal.returns
returns c =
    let none = nil_from_length (chunks_rest c.loop-piece.piece-iterator) c.in-None.ensures.steps.1.0 in
    let all =
    fed_all c.args.size c.args.trace.now c.loop-piece.frames.items (chunks_rest c.loop-piece.piece-iterator)
    c.loop-piece.decoder.state c.loop-piece.invariant.3 none in
    record {
      calls = all.0;
      end = c.loop-piece.decoder.state;
      fed = all.1;
      all = all.2;
      position = c.position.ensures;
      schemas = c.schema_count.ensures
          ∙ ap (λ r. counted_up 0 (length (map.entries r.wire_types))) c.registry.ensures;
      conflict = c.conflict_of.ensures ∙ pointed_to c.fault.result c.loop-piece.decoder.state.fault c.fault.ensures;
    }
