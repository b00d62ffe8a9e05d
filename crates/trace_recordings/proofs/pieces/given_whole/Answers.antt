use Rattle.std.proofs.Common.{◌≡◌, None, length, ap, ◌∙◌, inr}
use Rattle.std.specs.FinMap as map
use Rattle.trace_recordings.specs.Tallies.{counted_up}
use Rattle.trace_recordings.proofs.pieces.given_whole.Goals as goal

pub returns : goal.returns
returns c =
    let opens = c.in-Some.ensures.found in
    let works : c.in-Some.decoder.failure ≡ None = ap (λ d. d.failure) opens.1 in
    inr (record {
      opened = c.in-Some.decoder;
      opens = opens;
      end = c.decode_all.new.self;
      all = c.in-Ok.ensures.all works;
      position = c.position.ensures;
      schemas = c.schema_count.ensures
          ∙ ap (λ r. counted_up 0 (length (map.entries r.wire_types))) c.registry.ensures;
      conflict = c.next_conflict.ensures;
    })
