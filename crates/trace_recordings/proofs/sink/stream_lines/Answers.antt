use Rattle.std.proofs.Common.{refl, string_bytes}
use Rattle.trace_recordings.specs.Sinks.{IsStreamSink}
use Rattle.trace_recordings.proofs.SinkTexts.{IsNew, Tells, stream_sink, as_made}
use Rattle.trace_recordings.proofs.sink.stream_lines.Goals as goal

pub returns : goal.returns
returns c =
    let r = c.args.decoder.now in
    let is : IsNew r = record {
      starts = c.requires.starts;
      new = c.requires.new;
      inside = c.requires.inside;
      fits = c.requires.fits;
    } in
    let tells : Tells c.for_each_event-ended.result (string_bytes c.in_ok-told.told) = record {
      whole = c.in_ok-told.ensures.whole;
      memory = c.in_ok-told.ensures.memory;
    } in
    let made = stream_sink _ _ _ is refl c.for_each_event-ended.ensures.runs tells in
    as_made c.told_lines.result (IsStreamSink r.input) _ made
    (rw (c.deref.ensures, c.position.ensures) at c.told_lines.ensures)
